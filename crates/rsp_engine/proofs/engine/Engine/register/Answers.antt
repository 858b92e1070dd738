use Rattle.rsp_engine.proofs.Offering.{taken_refuses}
use Rattle.rsp_engine.proofs.engine.Engine.register.Goals as goal

pub returns-in-Some : goal.returns-in-Some
returns-in-Some g c =
    let found = c.in-Some.ensures in
    taken_refuses c.args.self.now c.args.name c.args.text c.in-Some.field-0 found.0 c.requires.ready found.1 found.2
