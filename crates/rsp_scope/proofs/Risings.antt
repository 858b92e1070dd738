-- Runs of endings: what goes stands in front.
use Rattle.std.proofs.Common.{◌≡◌, ℕ, zero, suc, ◌+◌, ◌<◌, ◌≤◌, false, cond, nat_le, List, [], ◌∷◌, drop, length, slice_index_or, sym, ap, ◌∙◌, drop-cons, le-leb, arith}
use Rattle.std.specs.List.Sorted.{IsNonDecreasingBy}
use Rattle.std.proofs.lemmas.Bool.Decides.{nat_tests}
use Rattle.std.proofs.lemmas.List.{drop_all}
use Rattle.std.proofs.lemmas.List.Sorted.{IsNonDecreasingBy-drop}
use Rattle.std.proofs.lemmas.List.Sums.{sum_by-drop_more}
use Rattle.rsp_scope.proofs.Endings.{any-default, filter-whole}
use Rattle.rsp_scope.specs.Runs.{reaching, triples_in}
use Rattle.rsp_scope.specs.declared.ends.Ending.{Ending}

-- an ending before the instant isn't among those that reach it
pub reaching-past : (next : ℕ) (es : List Ending) (at : ℕ) (e : Ending) → at < length es → e ≡ slice_index_or es at e → e.end < next
    → reaching next (drop at es) ≡ reaching next (drop (at + 1) es)
reaching-past next es at e below is gone =
    let more : suc at ≡ at + 1 = omega arith in
    let test : nat_le next e.end ≡ false = grind (arith, nat_tests, gone) in
    ap (λ l. reaching next l) (drop-cons es at e below ∙ ap (λ x. x ∷ drop (suc at) es) (sym is))
    ∙ ap (λ b. cond b (e ∷ reaching next (drop (suc at) es)) (reaching next (drop (suc at) es))) test
    ∙ ap (λ n. reaching next (drop n es)) more

-- where one reaches it, so do those behind
pub reaching-stops : (next : ℕ) (es : List Ending) (at : ℕ) (e : Ending) → IsNonDecreasingBy (λ (x : Ending). x.end) es → at < length es → e ≡ slice_index_or es at e → next ≤ e.end
    → reaching next (drop at es) ≡ drop at es
reaching-stops next es at e sorted below is stays =
    filter-whole (λ (x : Ending). nat_le next x.end) (drop at es)
    (λ k d inside.
    let low : (slice_index_or (drop at es) 0 d).end ≤ (slice_index_or (drop at es) k d).end
    = IsNonDecreasingBy-drop (λ (x : Ending). x.end) at es sorted 0 k d (omega arith) inside in
    let first : (slice_index_or (drop at es) 0 d).end ≡ (slice_index_or es at d).end
    = ap (λ (l : List Ending). (slice_index_or l 0 d).end) (drop-cons es at d below) in
    let same : (slice_index_or es at d).end ≡ e.end = ap (λ (x : Ending). x.end) (any-default es at d e below ∙ sym is) in
    le-leb next (slice_index_or (drop at es) k d).end (omega (arith, low, first, same, stays)))

pub reaching-none : (next : ℕ) (es : List Ending) (at : ℕ) → length es ≤ at → reaching next (drop at es) ≡ []
reaching-none next es at past = ap (λ l. reaching next l) (drop_all at es past)

pub triples-past : (es : List Ending) (at : ℕ) (e : Ending) → at < length es → e ≡ slice_index_or es at e
    → triples_in (drop at es) ≡ e.triples + triples_in (drop (at + 1) es)
triples-past es at e below is =
    sum_by-drop_more (λ (x : Ending). x.triples) es at e below ∙ ap (λ (x : Ending). x.triples + triples_in (drop (at + 1) es)) (sym is)

-- an ending more in front
pub rising-front : (es : List Ending) (e : Ending) → IsNonDecreasingBy (λ (x : Ending). x.end) es
    → ((d : Ending) → 0 < length es → e.end ≤ (slice_index_or es 0 d).end)
    → IsNonDecreasingBy (λ (x : Ending). x.end) (e ∷ es)
rising-front es e sorted low zero zero d before inside = omega arith
rising-front es e sorted low zero (suc j) d before inside =
    let some : 0 < length es = omega (arith, inside) in
    omega (arith, low d some, sorted 0 j d (omega arith) (omega (arith, inside)))
rising-front es e sorted low (suc i) zero d before inside = absurd (omega (arith, before))
rising-front es e sorted low (suc i) (suc j) d before inside = sorted i j d (omega (arith, before)) (omega (arith, inside))
