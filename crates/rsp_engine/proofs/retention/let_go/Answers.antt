use Rattle.std.proofs.Common.{length, sym, ap, subst, arith}
use Rattle.rsp_scope.specs.Ends.{IsKept}
use Rattle.rsp_scope.specs.Kept.{Kept}
use Rattle.rsp_engine.specs.Keeping.{IsLess, watches_by}
use Rattle.rsp_engine.specs.Passing.{is_overfull_outcome}
use Rattle.rsp_engine.proofs.KeptEnds.{few_passed, kept_passed, less_passed}
use Rattle.rsp_engine.proofs.retention.let_go.Goals as goal

pub returns-in-Rows-clause-less : goal.returns-in-Rows-clause-less
returns-in-Rows-clause-less g c =
    subst (IsLess c.args.streams.now) (sym c.drop_before.ensures) (less_passed c.args.cut c.args.streams.now)

pub returns-in-Rows-clause-room : goal.returns-in-Rows-clause-room
returns-in-Rows-clause-room g c =
    omega (arith, ap (λ (k : Kept). length k.items) c.drop_before.ensures, few_passed c.args.cut c.args.streams.now.items, c.requires.room)

pub returns-in-Rows-clause-kept : goal.returns-in-Rows-clause-kept
returns-in-Rows-clause-kept g c before all items on same less h =
    let watches = watches_by c.args.queries.now in
    subst (IsKept c.args.cut watches items) (sym c.drop_before.ensures)
    (kept_passed before c.args.cut all watches items c.args.streams.now on (same (ap is_overfull_outcome c.in-Rows.is)) h)
