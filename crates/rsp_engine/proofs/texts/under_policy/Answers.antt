use Rattle.std.proofs.Common.{ap, subst, sym}
use Rattle.rsp_report.specs.Policies.{is_mixed}
use Rattle.rsp_query.specs.Meanings.{registered}
use Rattle.rsp_engine.specs.Watching.{IsPolicy}
use Rattle.rsp_engine.proofs.Policies.{is_policy, not_mixed}
use Rattle.rsp_engine.proofs.texts.under_policy.Goals as goal

pub returns-in_ok-made-in-Ok : goal.returns-in_ok-made-in-Ok
returns-in_ok-made-in-Ok c =
    let q = registered c.args.query in
    let kept = c.in_ok-query-in-Ok.ensures.ok in
    let clear = not_mixed (is_mixed q.policy) c.in-Ok.ensures.mix.1 in (
      ap registered kept,
      record {
        unmixed = rw kept clear;
        policy = rw kept c.in-Ok.ensures.choice;
        periods = subst IsPolicy (sym c.in-Ok.ensures.choice) (is_policy q.policy clear c.requires.periods);
        translated = rw (kept, c.in_ok-made-in-Ok.ensures.ok) c.requires.translated;
        placed = rw c.in_ok-made-in-Ok.ensures.ok c.requires.placed;
      },
    )
