use Rattle.std.proofs.Common.{sym, subst, unwrap_or}
use Rattle.std.specs.List.{All}
use Rattle.rsp_engine.specs.Inside.{IsSought}
use Rattle.rsp_engine.proofs.schedule.set_out.Goals as goal

pub returns-in-Some-clause-sought : goal.returns-in-Some-clause-sought
returns-in-Some-clause-sought g c =
    subst (λ o. All (λ live. IsSought (unwrap_or o c.args.to) live) c.args.queries.now) (sym c.in-Some.is)
    (subst (λ o. All (λ live. IsSought (unwrap_or o 0) live) c.args.queries.now) c.in-Some.is c.requires.sought)
