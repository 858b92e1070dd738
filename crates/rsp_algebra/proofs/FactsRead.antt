-- A tree's rows over facts are those over the facts that it reads.
use Rattle.std.proofs.Common.{◌≡◌, ℕ, Bool, true, false, true≢false, ◌&&◌, ◌||◌, None, Some, List, [], ◌∷◌, cond, filter, refl, sym, ap, ◌∙◌, ◌+◌}
use Rattle.std.specs.Bool.{then_some}
use Rattle.std.specs.List.{filter_map, cons_option}
use Rattle.std.specs.Option.{option_eq}
use Rattle.rsp_spec.proofs.Truths.{both_are}
use Rattle.rsp_multiset.specs.Rows.{Cells}
use Rattle.rsp_terms.specs.declared.term.Term.{Term}
use Rattle.rsp_terms.specs.declared.statement.Fact.{Fact}
use Rattle.rsp_terms.specs.declared.statement.Spot.{Spot}
use Rattle.rsp_terms.specs.declared.statement.Spot.TheVariants as spot
use Rattle.rsp_terms.specs.Same.{term_eq}
use Rattle.rsp_expr.specs.declared.slot.Slot.{Slot}
use Rattle.rsp_expr.specs.declared.slot.Slot.TheVariants.{Variable, Constant}
use Rattle.rsp_algebra.specs.declared.tree.Place.{Place}
use Rattle.rsp_algebra.specs.declared.tree.Place.TheVariants as place
use Rattle.rsp_algebra.specs.declared.tree.TriplePattern.{TriplePattern}
use Rattle.rsp_algebra.specs.Nodes as node
use Rattle.rsp_algebra.specs.Nodes.{Node, Double}
use Rattle.rsp_algebra.specs.Overfull.{too_many, subtrees, overfull}
use Rattle.rsp_algebra.specs.Patterns.{row_by, binding, instance, is_at, is_instance, solution}
use Rattle.rsp_algebra.specs.Reading.{stands_for, has_graph, pattern_reads, reads, Passes}
use Rattle.rsp_algebra.specs.Solutions.{eval, rows_over, rows_of}
use Rattle.rsp_algebra.specs.Work.{work, key, join_work, matching_work}
use Rattle.rsp_algebra.proofs.Subtrees.{any-append}

-- ---- patterns

at_graph : (row : Cells Term) (place : Place) (spot : Spot) → is_at row place spot ≡ true → has_graph place spot ≡ true
at_graph row place.Default spot.Default is = is
at_graph row place.Default (spot.Named name) is = is
at_graph row place.Default (spot.Window k) is = is
at_graph row (place.Named name) spot.Default is = is
at_graph row (place.Named name) (spot.Named other) is = is
at_graph row (place.Named name) (spot.Window k) is = is
at_graph row (place.AnyNamed v) spot.Default is = is
at_graph row (place.AnyNamed v) (spot.Named other) is = refl
at_graph row (place.AnyNamed v) (spot.Window k) is = is
at_graph row (place.Window k) spot.Default is = is
at_graph row (place.Window k) (spot.Named other) is = is
at_graph row (place.Window k) (spot.Window index) is = is

stood_for : (row : Cells Term) (slot : Slot) (t : Term) → option_eq term_eq (instance row slot) (Some t) ≡ true → stands_for slot t ≡ true
stood_for row (Variable v) t is = refl
stood_for row (Constant c) t is = is

instance_read : (row : Cells Term) (place : Place) (triple : TriplePattern) (fact : Fact) → is_instance row place triple fact ≡ true → pattern_reads place triple fact ≡ true
instance_read row place triple fact is =
    let at = both_are (is_at row place fact.spot) _ is in
    let first = both_are (option_eq term_eq (instance row triple.subject) (Some fact.triple.subject)) _ at.1 in
    let others = both_are (option_eq term_eq (instance row triple.predicate) (Some fact.triple.predicate)) _ first.1 in
    let graph = at_graph row place fact.spot at.0 in
    let subject = stood_for row triple.subject fact.triple.subject first.0 in
    let predicate = stood_for row triple.predicate fact.triple.predicate others.0 in
    let object = stood_for row triple.object fact.triple.object others.1 in
    λ i. graph i && (subject i && (predicate i && object i))

module _ (width : ℕ) (place : Place) (triple : TriplePattern) (test : Fact → Bool) (passes : Passes (node.pattern place triple) test) where
  unread : (fact : Fact) → test fact ≡ false → solution width place triple fact ≡ None
  unread fact fails = by (is_instance (row_by width (binding place triple fact)) place triple fact) refl
    where
      row : Cells Term
      row = row_by width (binding place triple fact)

      by : (b : Bool) → is_instance row place triple fact ≡ b → solution width place triple fact ≡ None
      by true is = absurd (true≢false (sym (passes fact (instance_read row place triple fact is)) ∙ fails))
      by false is = ap (λ b. then_some b row) is

  pattern_rows : (facts : List Fact) → filter_map (solution width place triple) (filter test facts) ≡ filter_map (solution width place triple) facts
  pattern_rows [] = refl
  pattern_rows (fact ∷ facts) = by (test fact) refl (pattern_rows facts)
    where
      by : (b : Bool) → test fact ≡ b → filter_map (solution width place triple) (filter test facts) ≡ filter_map (solution width place triple) facts
          → filter_map (solution width place triple) (cond b (fact ∷ filter test facts) (filter test facts)) ≡ cons_option (solution width place triple fact) (filter_map (solution width place triple) facts)
      by true is rest = λ i. cons_option (solution width place triple fact) (rest i)
      by false is rest = rest ∙ sym (ap (λ row. cons_option row (filter_map (solution width place triple) facts)) (unread fact is))

-- ---- trees

or_first : (a b : Bool) → a ≡ true → (a || b) ≡ true
or_first true b h = refl
or_first false b h = absurd (true≢false (sym h))

or_second : (a b : Bool) → b ≡ true → (a || b) ≡ true
or_second true b h = refl
or_second false b h = h

left_passes : (double : Double) (left right : Node) (test : Fact → Bool) → Passes (node.of_two double left right) test → Passes left test
left_passes double left right test passes = λ fact is. passes fact (or_first (reads left fact) (reads right fact) is)

right_passes : (double : Double) (left right : Node) (test : Fact → Bool) → Passes (node.of_two double left right) test → Passes right test
right_passes double left right test passes = λ fact is. passes fact (or_second (reads left fact) (reads right fact) is)

module _ (width : ℕ) (test : Fact → Bool) where
  -- facts that a tree doesn't read make no difference to its rows
  pub eval-read : (tree : Node) → Passes tree test → (facts : List Fact) → eval width tree (filter test facts) ≡ eval width tree facts
  eval-read node.unit passes facts = refl
  eval-read (node.pattern place triple) passes facts = pattern_rows width place triple test passes facts
  eval-read (node.values rows) passes facts = refl
  eval-read (node.over single child) passes facts = ap (rows_over width single) (eval-read child passes facts)
  eval-read (node.of_two double left right) passes facts =
      let lefts = eval-read left (left_passes double left right test passes) facts in
      let rights = eval-read right (right_passes double left right test passes) facts in
      λ i. rows_of double (lefts i) (rights i)

  -- nor to whether it is overfull
  pub overfull-read : (tree : Node) → Passes tree test → (facts : List Fact) → overfull width tree (filter test facts) ≡ overfull width tree facts
  overfull-read node.unit passes facts = refl
  overfull-read (node.pattern place triple) passes facts = ap (λ rows. too_many rows || false) (eval-read (node.pattern place triple) passes facts)
  overfull-read (node.values rows) passes facts = refl
  overfull-read (node.over single child) passes facts =
      let rows = eval-read (node.over single child) passes facts in
      let below = overfull-read child passes facts in
      λ i. too_many (rows i) || below i
  overfull-read (node.of_two double left right) passes facts =
      let rows = eval-read (node.of_two double left right) passes facts in
      let first = overfull-read left (left_passes double left right test passes) facts in
      let second = overfull-read right (right_passes double left right test passes) facts in
      overfull_of_two double left right (filter test facts) ∙ ((λ i. too_many (rows i) || (first i || second i)) ∙ sym (overfull_of_two double left right facts))
    where
      overfull_of_two : (double : Double) (left right : Node) (facts : List Fact)
          → overfull width (node.of_two double left right) facts ≡ (too_many (eval width (node.of_two double left right) facts) || (overfull width left facts || overfull width right facts))
      overfull_of_two double left right facts =
          ap (λ b. too_many (eval width (node.of_two double left right) facts) || b) (any-append (λ (subtree : Node). too_many (eval width subtree facts)) (subtrees left) (subtrees right))

  -- nor to how many steps a change may take
  module _ (double : Double) (left right : Node) (passes : Passes (node.of_two double left right) test) (before after : List Fact) where
    matched_read : matching_work width left right (filter test before) (filter test after) ≡ matching_work width left right before after
    matched_read =
        let l = left_passes double left right test passes in
        let r = right_passes double left right test passes in
        λ i. join_work (key left right) (eval-read left l before i) (eval-read left l after i) (eval-read right r before i) (eval-read right r after i)

  pub work-read : (tree : Node) → Passes tree test → (before after : List Fact) → work width tree (filter test before) (filter test after) ≡ work width tree before after
  work-read node.unit passes before after = refl
  work-read (node.pattern place triple) passes before after = refl
  work-read (node.values rows) passes before after = refl
  work-read (node.over single child) passes before after = work-read child passes before after
  work-read (node.of_two node.union left right) passes before after =
      λ i. work-read left (left_passes node.union left right test passes) before after i + work-read right (right_passes node.union left right test passes) before after i
  work-read (node.of_two node.join left right) passes before after =
      λ i. work-read left (left_passes node.join left right test passes) before after i
      + (work-read right (right_passes node.join left right test passes) before after i + matched_read node.join left right passes before after i)
  work-read (node.of_two (node.left_join c) left right) passes before after =
      λ i. work-read left (left_passes (node.left_join c) left right test passes) before after i
      + (work-read right (right_passes (node.left_join c) left right test passes) before after i + matched_read (node.left_join c) left right passes before after i)
  work-read (node.of_two node.minus left right) passes before after =
      λ i. work-read left (left_passes node.minus left right test passes) before after i
      + (work-read right (right_passes node.minus left right test passes) before after i + matched_read node.minus left right passes before after i)
  work-read (node.of_two (node.exists c) left right) passes before after =
      λ i. work-read left (left_passes (node.exists c) left right test passes) before after i
      + (work-read right (right_passes (node.exists c) left right test passes) before after i + matched_read (node.exists c) left right passes before after i)
  work-read (node.of_two (node.not_exists c) left right) passes before after =
      λ i. work-read left (left_passes (node.not_exists c) left right test passes) before after i
      + (work-read right (right_passes (node.not_exists c) left right test passes) before after i + matched_read (node.not_exists c) left right passes before after i)
