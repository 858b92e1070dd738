-- What was put behind a list is what it holds more.
use Rattle.std.proofs.Common.{◌≡◌, ℕ, ℤ, ◌+ℤ◌, List, take, drop, length, ap, sym, ◌∙◌, arith}
use Rattle.std.proofs.lemmas.Int.{ints}
use Rattle.std.proofs.lemmas.List.{take-append-drop}
use Rattle.rsp_multiset.specs.Weights.{times}
use Rattle.rsp_multiset.proofs.Changing.{times-append}
use Rattle.rsp_terms.specs.declared.statement.Fact.{Fact}
use Rattle.rsp_terms.specs.Same.{fact_eq}

pub put-behind : (old new : List Fact) (n : ℕ) (q : Fact) (w : ℤ) → n ≡ length old → take (length old) new ≡ old
    → w ≡ times fact_eq (drop n new) q → times fact_eq new q ≡ times fact_eq old q +ℤ w
put-behind old new n q w is kept holds =
    let parts : times fact_eq new q ≡ times fact_eq (take (length old) new) q +ℤ times fact_eq (drop (length old) new) q
    = ap (λ l. times fact_eq l q) (sym (take-append-drop (length old) new))
    ∙ times-append fact_eq (take (length old) new) (drop (length old) new) q in
    let front = ap (λ l. times fact_eq l q) kept in
    let behind : w ≡ times fact_eq (drop (length old) new) q = holds ∙ ap (λ k. times fact_eq (drop k new) q) is in
    omega (arith, ints, parts, front, behind)
