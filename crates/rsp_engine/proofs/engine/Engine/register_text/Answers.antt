use Rattle.std.proofs.Common.{ap}
use Rattle.rsp_engine.specs.Stands.{State}
use Rattle.rsp_engine.proofs.Offering.{breaks, faulty_refuses}
use Rattle.rsp_engine.proofs.engine.Engine.register_text.Goals as goal

pub returns-in-Ok-Err : goal.returns-in-Ok-Err
returns-in-Ok-Err g c =
    let found = rw (c.in-Ok-Err.field-0-is, c.as_str.ensures) at c.in-Ok-Err.ensures in
    faulty_refuses c.args.self.now c.args.name c.args.text c.in-Ok-Err.fault c.requires.ready c.requires.free found

pub returns-in-Err : goal.returns-in-Err
returns-in-Err g c =
    breaks c.args.self.now c.args.name c.args.text c.break_off.result c.break_off.new.self c.requires.ready c.requires.free c.break_off.ensures.value (ap (λ (s : State). s.broken) c.break_off.ensures.state)
