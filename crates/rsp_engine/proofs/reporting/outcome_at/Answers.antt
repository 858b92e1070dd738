use Rattle.std.proofs.Common.{◌≡◌, ◌∙◌, [], Some, refl, sym, ap, subst, true≢false}
use Rattle.std.specs.Prelude.{not, Ok}
use Rattle.std.proofs.lemmas.List.Elements.{All-same}
use Rattle.std.specs.Vec.{with_items}
use Rattle.rsp_terms.specs.Same.{term_eq}
use Rattle.rsp_multiset.specs.Rows.{row_eq}
use Rattle.rsp_multiset.specs.Weights.{IsChanged}
use Rattle.rsp_scope.specs.Moves.{Followed}
use Rattle.rsp_algebra.specs.Changing.{IfNet, is_overfull, goes_on}
use Rattle.rsp_algebra.specs.Solutions.{eval}
use Rattle.rsp_engine.specs.Inside.{live_of}
use Rattle.rsp_engine.specs.Keeping.{watches_followed}
use Rattle.rsp_engine.specs.Passing.{facts_at}
use Rattle.rsp_engine.proofs.Costing.{change_costs}
use Rattle.rsp_engine.proofs.Following.{AllMoved, allowed_change, contents_back, stands_for_now, still_follows, told_of}
use Rattle.rsp_engine.proofs.Reported.{overfull_outcome, rows_outcome}
use Rattle.rsp_engine.proofs.reporting.outcome_at.Goals as goal

pub change-requires-clause-allowed : goal.change-requires-clause-allowed
change-requires-clause-allowed g c =
    let news = c.move_windows.new.contents in
    let watched = c.in_ok-move_windows.ensures.watches ∙ ap watches_followed c.deref_mut.ensures.value in
    let shift = c.move_windows.new.changes in
    let changes = c.join_changes.new.self in
    let from_none = subst (λ changes. AllMoved c.args.streams.now c.args.at c.deref_mut.result.now news changes shift) c.new-moved.ensures c.in_ok-move_windows.ensures.moved in
    let moved = subst (λ l. AllMoved c.args.streams.now c.args.at l news [] shift) c.deref_mut.ensures.value from_none in
    let told = told_of c.args.stored.now c.args.log.now (live_of g.A.Answer.facts c.args.live.now) c.in_ok-changes.changes shift c.in_ok-part_read.field-0 changes
    c.in_ok-changes.ensures c.in_ok-part_read.ensures c.in_ok-join_changes.ensures in
    allowed_change c.args.streams.now c.args.stored.now c.args.log.now c.args.at (live_of g.A.Answer.facts c.args.live.now) news shift changes
    c.requires.watches watched c.in_ok-move_windows.ensures.at told moved
    c.requires.store c.requires.answers.set c.requires.followed

pub returns-in-Overfull-clause-reported : goal.returns-in-Overfull-clause-reported
returns-in-Overfull-clause-reported g c =
    let live = c.args.live.now in
    let news = c.move_windows.new.contents in
    let held = g.A.Answer.facts c.change.new.self in
    let watched = c.in_ok-move_windows.ensures.watches ∙ ap watches_followed c.deref_mut.ensures.value in
    let shift = c.move_windows.new.changes in
    let changes = c.join_changes.new.self in
    let from_none = subst (λ changes. AllMoved c.args.streams.now c.args.at c.deref_mut.result.now news changes shift) c.new-moved.ensures c.in_ok-move_windows.ensures.moved in
    let moved = subst (λ l. AllMoved c.args.streams.now c.args.at l news [] shift) c.deref_mut.ensures.value from_none in
    let told = told_of c.args.stored.now c.args.log.now (live_of g.A.Answer.facts live) c.in_ok-changes.changes shift c.in_ok-part_read.field-0 changes
    c.in_ok-changes.ensures c.in_ok-part_read.ensures c.in_ok-join_changes.ensures in
    let stands = stands_for_now c.args.streams.now c.args.stored.now c.args.log.now c.args.at (live_of g.A.Answer.facts live) news shift changes
    c.requires.watches watched c.in_ok-move_windows.ensures.at told moved in
    let back = contents_back live news watched in
    let full = sym (ap is_overfull (sym c.in-Overfull.is) ∙ c.in_ok-change.ensures.overfull) in
    record {
      outcome = λ items follows has.
          overfull_outcome g.A.Answer.node g.A.Answer.width g.A.Answer.facts g.A.Answer.spent live c.requires.answers (facts_at items c.args.stored.now (live_of g.A.Answer.facts live) c.args.at) held
          (stands items follows has held c.in_ok-change.ensures.facts)
          full;
      same = refl;
      watched = refl;
      windows = ap watches_followed back ∙ watched;
      at = All-same (λ (seen : Followed). seen.at ≡ Some c.args.at) (with_items live.contents news).items news back c.in_ok-move_windows.ensures.at;
      told = λ rows. absurd (true≢false rows);
      answers = λ rows. absurd (true≢false rows);
      follows = λ rows. absurd (true≢false rows);
    }

pub returns-clause-reported : goal.returns-clause-reported
returns-clause-reported g c =
    let live = c.args.live.now in
    let ans = c.requires.answers in
    let w = g.A.Answer.width live.answer in
    let n = g.A.Answer.node live.answer in
    let before = eval w n (g.A.Answer.facts live.answer) in
    let news = c.move_windows.new.contents in
    let held = g.A.Answer.facts c.change.new.self in
    let watched = c.in_ok-move_windows.ensures.watches ∙ ap watches_followed c.deref_mut.ensures.value in
    let shift = c.move_windows.new.changes in
    let changes = c.join_changes.new.self in
    let from_none = subst (λ changes. AllMoved c.args.streams.now c.args.at c.deref_mut.result.now news changes shift) c.new-moved.ensures c.in_ok-move_windows.ensures.moved in
    let moved = subst (λ l. AllMoved c.args.streams.now c.args.at l news [] shift) c.deref_mut.ensures.value from_none in
    let told = told_of c.args.stored.now c.args.log.now (live_of g.A.Answer.facts live) c.in_ok-changes.changes shift c.in_ok-part_read.field-0 changes
    c.in_ok-changes.ensures c.in_ok-part_read.ensures c.in_ok-join_changes.ensures in
    let stands = stands_for_now c.args.streams.now c.args.stored.now c.args.log.now c.args.at (live_of g.A.Answer.facts live) news shift changes
    c.requires.watches watched c.in_ok-move_windows.ensures.at told moved in
    let still = still_follows c.args.streams.now c.args.stored.now c.args.log.now c.args.at (live_of g.A.Answer.facts live) news shift changes
    c.requires.watches watched c.in_ok-move_windows.ensures.at told moved in
    let back = contents_back live news watched in
    let full = sym (ap is_overfull (sym c.in-Net.is) ∙ c.in_ok-change.ensures.overfull) in
    let ready = c.change.ensures.spent ∙ ap (λ r. not (goes_on r)) (c.in_ok-change.was ∙ ap Ok c.in-Net.is) in
    let net = subst (λ t. IfNet t (λ net. IsChanged (row_eq term_eq) before net (eval w n (g.A.Answer.facts c.change.new.self)))) c.in-Net.is c.in_ok-change.ensures.net in
    record {
      outcome = λ items follows has.
          rows_outcome g.A.Answer.node g.A.Answer.width g.A.Answer.facts g.A.Answer.spent live ans (facts_at items c.args.stored.now (live_of g.A.Answer.facts live) c.args.at) held
          (stands items follows has held c.in_ok-change.ensures.facts)
          c.in_ok-rows-in-Net.rows
          full
          (λ seen preceding same behind.
          rw (c.change.ensures.width, c.change.ensures.node) at
          (c.in_ok-rows-in-Net.ensures seen before preceding same (rw (c.change.ensures.width, c.change.ensures.node) net) behind));
      same = refl;
      watched = refl;
      windows = ap watches_followed back ∙ watched;
      at = All-same (λ (seen : Followed). seen.at ≡ Some c.args.at) (with_items live.contents news).items news back c.in_ok-move_windows.ensures.at;
      told = λ rows. refl;
      answers = λ rows. record {
        node_is = c.change.ensures.node ∙ ans.node_is;
        width_is = c.change.ensures.width ∙ ans.width_is;
        ready = ready;
        set = c.in_ok-change.ensures.set;
      };
      follows = λ rows items follows has. (
        still items follows has _ refl back refl c.mark-live.ensures.none c.in_ok-change.ensures.facts,
        stands items follows has held c.in_ok-change.ensures.facts,
      );
    }

pub returns-in_err-change-clause-cost : goal.returns-in_err-change-clause-cost
returns-in_err-change-clause-cost g c =
    let live = c.args.live.now in
    let news = c.move_windows.new.contents in
    let watched = c.in_ok-move_windows.ensures.watches ∙ ap watches_followed c.deref_mut.ensures.value in
    let shift = c.move_windows.new.changes in
    let changes = c.join_changes.new.self in
    let from_none = subst (λ changes. AllMoved c.args.streams.now c.args.at c.deref_mut.result.now news changes shift) c.new-moved.ensures c.in_ok-move_windows.ensures.moved in
    let moved = subst (λ l. AllMoved c.args.streams.now c.args.at l news [] shift) c.deref_mut.ensures.value from_none in
    let told = told_of c.args.stored.now c.args.log.now (live_of g.A.Answer.facts live) c.in_ok-changes.changes shift c.in_ok-part_read.field-0 changes
    c.in_ok-changes.ensures c.in_ok-part_read.ensures c.in_ok-join_changes.ensures in
    change_costs g.A.Answer.node g.A.Answer.width g.A.Answer.facts g.A.Answer.spent live c.requires.answers c.args.streams.now c.args.stored.now c.args.log.now c.args.at news shift changes
    c.requires.watches watched c.in_ok-move_windows.ensures.at told moved c.requires.store c.requires.followed _ _ c.change.ensures.cost

pub returns-in-Overfull-clause-cost : goal.returns-in-Overfull-clause-cost
returns-in-Overfull-clause-cost g c =
    let live = c.args.live.now in
    let news = c.move_windows.new.contents in
    let watched = c.in_ok-move_windows.ensures.watches ∙ ap watches_followed c.deref_mut.ensures.value in
    let shift = c.move_windows.new.changes in
    let changes = c.join_changes.new.self in
    let from_none = subst (λ changes. AllMoved c.args.streams.now c.args.at c.deref_mut.result.now news changes shift) c.new-moved.ensures c.in_ok-move_windows.ensures.moved in
    let moved = subst (λ l. AllMoved c.args.streams.now c.args.at l news [] shift) c.deref_mut.ensures.value from_none in
    let told = told_of c.args.stored.now c.args.log.now (live_of g.A.Answer.facts live) c.in_ok-changes.changes shift c.in_ok-part_read.field-0 changes
    c.in_ok-changes.ensures c.in_ok-part_read.ensures c.in_ok-join_changes.ensures in
    change_costs g.A.Answer.node g.A.Answer.width g.A.Answer.facts g.A.Answer.spent live c.requires.answers c.args.streams.now c.args.stored.now c.args.log.now c.args.at news shift changes
    c.requires.watches watched c.in_ok-move_windows.ensures.at told moved c.requires.store c.requires.followed _ _ c.change.ensures.cost

pub returns-in_err-rows-in-Net-clause-cost : goal.returns-in_err-rows-in-Net-clause-cost
returns-in_err-rows-in-Net-clause-cost g c =
    let live = c.args.live.now in
    let news = c.move_windows.new.contents in
    let watched = c.in_ok-move_windows.ensures.watches ∙ ap watches_followed c.deref_mut.ensures.value in
    let shift = c.move_windows.new.changes in
    let changes = c.join_changes.new.self in
    let from_none = subst (λ changes. AllMoved c.args.streams.now c.args.at c.deref_mut.result.now news changes shift) c.new-moved.ensures c.in_ok-move_windows.ensures.moved in
    let moved = subst (λ l. AllMoved c.args.streams.now c.args.at l news [] shift) c.deref_mut.ensures.value from_none in
    let told = told_of c.args.stored.now c.args.log.now (live_of g.A.Answer.facts live) c.in_ok-changes.changes shift c.in_ok-part_read.field-0 changes
    c.in_ok-changes.ensures c.in_ok-part_read.ensures c.in_ok-join_changes.ensures in
    change_costs g.A.Answer.node g.A.Answer.width g.A.Answer.facts g.A.Answer.spent live c.requires.answers c.args.streams.now c.args.stored.now c.args.log.now c.args.at news shift changes
    c.requires.watches watched c.in_ok-move_windows.ensures.at told moved c.requires.store c.requires.followed _ _ c.change.ensures.cost

pub returns-clause-cost : goal.returns-clause-cost
returns-clause-cost g c =
    let live = c.args.live.now in
    let news = c.move_windows.new.contents in
    let watched = c.in_ok-move_windows.ensures.watches ∙ ap watches_followed c.deref_mut.ensures.value in
    let shift = c.move_windows.new.changes in
    let changes = c.join_changes.new.self in
    let from_none = subst (λ changes. AllMoved c.args.streams.now c.args.at c.deref_mut.result.now news changes shift) c.new-moved.ensures c.in_ok-move_windows.ensures.moved in
    let moved = subst (λ l. AllMoved c.args.streams.now c.args.at l news [] shift) c.deref_mut.ensures.value from_none in
    let told = told_of c.args.stored.now c.args.log.now (live_of g.A.Answer.facts live) c.in_ok-changes.changes shift c.in_ok-part_read.field-0 changes
    c.in_ok-changes.ensures c.in_ok-part_read.ensures c.in_ok-join_changes.ensures in
    change_costs g.A.Answer.node g.A.Answer.width g.A.Answer.facts g.A.Answer.spent live c.requires.answers c.args.streams.now c.args.stored.now c.args.log.now c.args.at news shift changes
    c.requires.watches watched c.in_ok-move_windows.ensures.at told moved c.requires.store c.requires.followed _ _ c.change.ensures.cost
