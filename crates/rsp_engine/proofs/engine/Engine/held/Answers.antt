use Rattle.std.proofs.Common.{[], ◌∙◌, refl}
use Rattle.rsp_engine.specs.Inside.{state_of}
use Rattle.rsp_engine.specs.Stands.{Stands}
use Rattle.rsp_engine.proofs.Offering.{held_here}
use Rattle.rsp_engine.proofs.engine.Engine.held.Goals as goal

pub returns : goal.returns
returns g c world stands =
    let here : Stands (state_of g.A.Answer.facts c.self.inside) world [] = rw (← c.self.view_is) at stands in
    c.held.ensures ∙ held_here (state_of g.A.Answer.facts c.self.inside) world (here.none.1 refl) here
