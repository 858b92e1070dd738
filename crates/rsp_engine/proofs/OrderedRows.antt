-- The rows of a report are the solutions, in order.
use Rattle.std.proofs.Common.{◌≡◌, ◌≢◌, ℕ, List, [], ℤ, pos, ◌+ℤ◌, map, refl, sym, ◌∙◌, ap}
use Rattle.std.specs.Prelude.{Result, Ok, Err, IfOk}
use Rattle.rsp_multiset.specs.Weights.{IsChanged, only, times, total, weight}
use Rattle.rsp_multiset.specs.RowSame.{row_decides}
use Rattle.rsp_multiset.proofs.Linear.{sum-changed}
use Rattle.rsp_multiset.proofs.Sums.{sum_z-map}
use Rattle.rsp_streams_out.specs.Streams.{reported}
use Rattle.rsp_streams_out.specs.Turning.{StandsFor}
use Rattle.rsp_report.specs.declared.operator.Operator.{Operator}
use Rattle.rsp_report.specs.declared.operator.Operator.TheVariants.{Rstream, Istream, Dstream}
use Rattle.rsp_multiset.specs.Rows.{Cells, row_eq}
use Rattle.rsp_terms.specs.declared.term.Term.{Term}
use Rattle.rsp_terms.specs.Same.{term_eq, term_same}
use Rattle.rsp_streams_out.specs.Rows.{in_order}
use Rattle.rsp_algebra.proofs.SameFacts.{SameRows, same_mapped}
use Rattle.rsp_engine.specs.Reports.{cells_at}

pub ordered_rows : (rows wanted cut_rows out : List (Cells Term)) (shown : List ℕ) → SameRows rows wanted → cut_rows ≡ map (cells_at shown) rows
    → ((other : List (Cells Term)) → SameRows other cut_rows → in_order other ≡ out) → out ≡ in_order (map (cells_at shown) wanted)
ordered_rows rows wanted cut_rows out shown same cut_is order =
    let mapped : SameRows cut_rows (map (cells_at shown) wanted) = λ q. ap (λ rs. times (row_eq term_eq) rs q) cut_is ∙ same_mapped (cells_at shown) rows wanted same q in
    sym (order (map (cells_at shown) wanted) (λ q. sym (mapped q)))

pub ordered_ok : {E : Type 0} (result : Result (List (Cells Term)) E) (rows cut_rows : List (Cells Term)) (shown : List ℕ) (bag : List (Cells Term × ℤ))
    → ((q : Cells Term) → times (row_eq term_eq) rows q ≡ weight (row_eq term_eq) bag q) → cut_rows ≡ map (cells_at shown) rows
    → IfOk result (λ out. (other : List (Cells Term)) → SameRows other cut_rows → in_order other ≡ out)
    → IfOk result (λ out. (wanted : List (Cells Term)) → ((q : Cells Term) → weight (row_eq term_eq) bag q ≡ times (row_eq term_eq) wanted q) → out ≡ in_order (map (cells_at shown) wanted))
ordered_ok (Ok out) rows cut_rows shown bag held cut_is order =
    λ wanted same. ordered_rows rows wanted cut_rows out shown (λ q. held q ∙ same q) cut_is order
ordered_ok (Err why) rows cut_rows shown bag held cut_is order = tt

-- ---- changes of rows

-- a change of rows, with the cells that are shown, is one of the rows with these cells
pub cut_changed : (shown : List ℕ) (before after : List (Cells Term)) (net cut : List (Cells Term × ℤ))
    → ((q : Cells Term) → weight (row_eq term_eq) cut q ≡ total (λ row. only (row_eq term_eq q (cells_at shown row)) (pos 1)) net)
    → IsChanged (row_eq term_eq) before net after → IsChanged (row_eq term_eq) (map (cells_at shown) before) cut (map (cells_at shown) after)
cut_changed shown before after net cut is changed q =
    let now = sum_z-map (λ y. only (row_eq term_eq q y) (pos 1)) (cells_at shown) after in
    let then = sum_z-map (λ y. only (row_eq term_eq q y) (pos 1)) (cells_at shown) before in
    let by = sum-changed (row_decides term_same) (λ row. only (row_eq term_eq q (cells_at shown row)) (pos 1)) before after net changed in
    now ∙ (by ∙ (ap (λ n. n +ℤ total (λ row. only (row_eq term_eq q (cells_at shown row)) (pos 1)) net) (sym then)
    ∙ ap (λ n. times (row_eq term_eq) (map (cells_at shown) before) q +ℤ n) (sym (is q))))

-- by other lists of the same rows
pub changed_same : (before before' after after' : List (Cells Term)) (cut : List (Cells Term × ℤ)) → IsChanged (row_eq term_eq) before cut after
    → SameRows before before' → SameRows after after' → IsChanged (row_eq term_eq) before' cut after'
changed_same before before' after after' cut changed first second q =
    sym (second q) ∙ (changed q ∙ ap (λ n. n +ℤ weight (row_eq term_eq) cut q) (first q))

pub stands_for : (operator : Operator) (change : List (Cells Term × ℤ)) (solutions : List (Cells Term × ℤ)) (preceding present : List (Cells Term))
    → operator ≢ Rstream → IsChanged (row_eq term_eq) preceding change present → StandsFor operator change solutions preceding present
stands_for Rstream change solutions preceding present other changed = absurd (other refl)
stands_for Istream change solutions preceding present other changed = changed
stands_for Dstream change solutions preceding present other changed = changed

-- no rows where none are to be reported
pub no_rows : (operator : Operator) (preceding present : List (Cells Term)) → preceding ≡ [] → reported operator [] present ≡ []
    → [] ≡ reported operator preceding present
no_rows operator preceding present none is = rw (none, is) refl
