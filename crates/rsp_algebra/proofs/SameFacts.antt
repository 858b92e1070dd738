-- The solutions over facts depend on which facts there are alone, and not on their order.
use Rattle.std.proofs.Common.{◌≡◌, ℕ, Bool, ◌||◌, List, [], ◌∷◌, pos, refl, sym, ap, ◌∙◌, nat_lt, map}
use Rattle.std.specs.Prelude.{option_to_list}
use Rattle.std.specs.List.{list_any}
use Rattle.rsp_multiset.specs.Rows.{Cells, compatible}
use Rattle.rsp_multiset.specs.RowLists.{merged_pairs, without_partner}
use Rattle.rsp_multiset.specs.RowSame.{row_decides}
use Rattle.rsp_multiset.specs.Weights.{only, sum_z, times}
use Rattle.rsp_multiset.proofs.Linear.{length-same, sum-same}
use Rattle.rsp_multiset.proofs.SameLists.{same-map, same-append, same-filter, same-once, same-pairs, same-with_partner, same-without_partner}
use Rattle.rsp_multiset.proofs.Sums.{sum_z-filter_map}
use Rattle.rsp_terms.specs.declared.term.Term.{Term}
use Rattle.rsp_terms.specs.declared.statement.Fact.{Fact}
use Rattle.rsp_terms.specs.Same.{term_eq, term_same, fact_eq, fact_same}
use Rattle.rsp_expr.specs.Formulas.{Aggregation}
use Rattle.rsp_expr.specs.Aggregates.{aggregate_value}
use Rattle.rsp_expr.specs.Values.{truth}
use Rattle.rsp_expr.proofs.SameAggregates.{same_aggregate_value}
use Rattle.rsp_algebra.specs.Nodes as node
use Rattle.rsp_algebra.specs.Nodes.{Node}
use Rattle.rsp_algebra.specs.Patterns.{solution}
use Rattle.rsp_algebra.specs.Solutions.{same_row, eval, pass_together, takes_away, projection, extension, extended_by, group_keys, group_of, with_aggregates, grouped}
use Rattle.rsp_algebra.specs.Overfull.{most_rows, overfull, subtrees, too_many}

abbrev pub SameFacts : List Fact → List Fact → Type 0
SameFacts facts others = (q : Fact) → times fact_eq facts q ≡ times fact_eq others q

abbrev pub SameRows : List (Cells Term) → List (Cells Term) → Type 0
SameRows rows others = (q : Cells Term) → times same_row rows q ≡ times same_row others q

pub same_mapped : (f : Cells Term → Cells Term) (rows others : List (Cells Term)) → SameRows rows others → SameRows (map f rows) (map f others)
same_mapped f rows others same = same-map (row_decides term_same) same_row f rows others same

-- ---- groups

map-alike : (f g : Cells Term → Cells Term) → ((row : Cells Term) → f row ≡ g row) → (rows : List (Cells Term)) → map f rows ≡ map g rows
map-alike f g alike [] = refl
map-alike f g alike (row ∷ rows) = (λ i. alike row i ∷ map-alike f g alike rows i)

same-keys : (width : ℕ) (keys : List ℕ) (rows others : List (Cells Term)) → SameRows rows others → SameRows (group_keys width keys rows) (group_keys width keys others)
same-keys width [] rows others same = λ q. refl
same-keys width (key ∷ keys) rows others same =
    same-once (row_decides term_same) (map (projection width (key ∷ keys)) rows) (map (projection width (key ∷ keys)) others)
    (same_mapped (projection width (key ∷ keys)) rows others same)

same-with_aggregates : (width : ℕ) (aggregates : List (ℕ × Aggregation)) (rows others : List (Cells Term)) (key : Cells Term) → SameRows rows others → with_aggregates width aggregates rows key ≡ with_aggregates width aggregates others key
same-with_aggregates width [] rows others key same = refl
same-with_aggregates width (aggregate ∷ aggregates) rows others key same =
    (λ i. with_aggregates width aggregates rows (extension width aggregate.0 (same_aggregate_value aggregate.1 rows others same i) key))
    ∙ same-with_aggregates width aggregates rows others (extension width aggregate.0 (aggregate_value aggregate.1 others) key) same

same-grouped : (width : ℕ) (keys : List ℕ) (aggregates : List (ℕ × Aggregation)) (rows others : List (Cells Term)) → SameRows rows others → SameRows (grouped width keys aggregates rows) (grouped width keys aggregates others)
same-grouped width keys aggregates rows others same q =
    let made = λ (rows : List (Cells Term)) (key : Cells Term). with_aggregates width aggregates (group_of width keys rows key) key in
    ap (λ made_rows. times same_row made_rows q) (map-alike (made rows) (made others) (λ key.
    same-with_aggregates width aggregates (group_of width keys rows key) (group_of width keys others key) key
    (same-filter (row_decides term_same) (λ row. same_row key (projection width keys row)) rows others same)) (group_keys width keys rows))
    ∙ same_mapped (made others) (group_keys width keys rows) (group_keys width keys others) (same-keys width keys rows others same) q

pub same_solutions : (width : ℕ) (tree : Node) (facts others : List Fact) → SameFacts facts others → SameRows (eval width tree facts) (eval width tree others)
same_solutions width node.unit facts others same = λ q. refl
same_solutions width (node.pattern place triple) facts others same =
    λ q.
    let counted = λ (row : Cells Term). only (same_row q row) (pos 1) in
    sum_z-filter_map counted (solution width place triple) facts
    ∙ (sum-same fact_same (λ fact. sum_z counted (option_to_list (solution width place triple fact))) facts others same
    ∙ sym (sum_z-filter_map counted (solution width place triple) others))
same_solutions width (node.of_two node.join left right) facts others same =
    same-pairs term_same (compatible term_eq) (eval width left facts) (eval width left others) (eval width right facts) (eval width right others)
    (same_solutions width left facts others same) (same_solutions width right facts others same)
same_solutions width (node.of_two (node.left_join condition) left right) facts others same =
    same-append (row_decides term_same)
    (merged_pairs (pass_together condition) (eval width left facts) (eval width right facts)) (merged_pairs (pass_together condition) (eval width left others) (eval width right others))
    (without_partner (pass_together condition) (eval width left facts) (eval width right facts)) (without_partner (pass_together condition) (eval width left others) (eval width right others))
    (same-pairs term_same (pass_together condition) (eval width left facts) (eval width left others) (eval width right facts) (eval width right others)
    (same_solutions width left facts others same) (same_solutions width right facts others same))
    (same-without_partner term_same (pass_together condition) (eval width left facts) (eval width left others) (eval width right facts) (eval width right others)
    (same_solutions width left facts others same) (same_solutions width right facts others same))
same_solutions width (node.of_two node.union left right) facts others same =
    same-append (row_decides term_same) (eval width left facts) (eval width left others) (eval width right facts) (eval width right others)
    (same_solutions width left facts others same) (same_solutions width right facts others same)
same_solutions width (node.of_two node.minus left right) facts others same =
    same-without_partner term_same takes_away (eval width left facts) (eval width left others) (eval width right facts) (eval width right others)
    (same_solutions width left facts others same) (same_solutions width right facts others same)
same_solutions width (node.of_two (node.exists condition) left right) facts others same =
    same-with_partner term_same (pass_together condition) (eval width left facts) (eval width left others) (eval width right facts) (eval width right others)
    (same_solutions width left facts others same) (same_solutions width right facts others same)
same_solutions width (node.of_two (node.not_exists condition) left right) facts others same =
    same-without_partner term_same (pass_together condition) (eval width left facts) (eval width left others) (eval width right facts) (eval width right others)
    (same_solutions width left facts others same) (same_solutions width right facts others same)
same_solutions width (node.over (node.filter condition) child) facts others same =
    same-filter (row_decides term_same) (truth condition) (eval width child facts) (eval width child others) (same_solutions width child facts others same)
same_solutions width (node.over (node.extend variable formula) child) facts others same =
    same_mapped (extended_by width variable formula) (eval width child facts) (eval width child others) (same_solutions width child facts others same)
same_solutions width (node.values rows) facts others same = λ q. refl
same_solutions width (node.over (node.project variables) child) facts others same =
    same_mapped (projection width variables) (eval width child facts) (eval width child others) (same_solutions width child facts others same)
same_solutions width (node.over node.distinct child) facts others same =
    same-once (row_decides term_same) (eval width child facts) (eval width child others) (same_solutions width child facts others same)
same_solutions width (node.over (node.group keys aggregates) child) facts others same =
    same-grouped width keys aggregates (eval width child facts) (eval width child others) (same_solutions width child facts others same)

any_alike : {X : Type 0} (p q : X → Bool) → ((x : X) → p x ≡ q x) → (xs : List X) → list_any p xs ≡ list_any q xs
any_alike p q alike [] = refl
any_alike p q alike (x ∷ xs) = (λ i. alike x i || any_alike p q alike xs i)

pub same_overfull : (width : ℕ) (node : Node) (facts others : List Fact) → SameFacts facts others → overfull width node facts ≡ overfull width node others
same_overfull width node facts others same =
    any_alike (λ (subtree : Node). too_many (eval width subtree facts)) (λ (subtree : Node). too_many (eval width subtree others))
    (λ subtree. ap (λ n. nat_lt most_rows n) (length-same (row_decides term_same) (eval width subtree facts) (eval width subtree others) (same_solutions width subtree facts others same)))
    (subtrees node)
