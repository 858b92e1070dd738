use Rattle.rsp_engine.proofs.Standing.{named_place}
use Rattle.rsp_engine.proofs.engine.Engine.place_of.Goals as goal

pub returns : goal.returns
returns g c =
    let found = rw c.as_slice.ensures.value at c.place_of.ensures in
    rw (← c.self.view_is) (named_place g.A.Answer.facts c.self.inside.queries.items c.args.name.now c.place_of.result found)
