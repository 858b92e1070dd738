-- One turn of the queue while new ends are set.
use Rattle.std.proofs.Common.{◌≡◌, ℕ, suc, ◌<◌, ◌≤◌, Option, List, [], ◌∷◌, ◌++◌, drop, take, length, slice_index_or, sym, subst, ◌∙◌, append_assoc, arith}
use Rattle.std.proofs.lemmas.List.{length-append, drop-append-le, take-append-le}
use Rattle.rsp_scope.specs.Kept.{ended, shortened}
use Rattle.rsp_scope.specs.declared.item.Item.{Item}

-- what is left of the queue in front, and what the ends to come make of it, give the same list before and after
pub turned : (m : ℕ) (items : List Item) (until : Option ℕ) (untils : List (Option ℕ)) (later total : List Item) → suc m ≤ length items
    → ((d : Item) → 0 < length items → later ≡ drop 1 items ++ ended (slice_index_or items 0 d) until)
    → drop (suc m) items ++ shortened (take (suc m) items) (until ∷ untils) ≡ total
    → (m ≤ length later) × (drop m later ++ shortened (take m later) untils ≡ total)
turned m [] until untils later total h given e = absurd (omega (arith, h))
turned m (x ∷ xs) until untils later total h given e =
    subst (λ (l : List Item). (m ≤ length l) × (drop m l ++ shortened (take m l) untils ≡ total)) (sym (given x (omega arith))) (
      omega (arith, h, length-append xs (ended x until)),
      (λ i. drop-append-le m xs (ended x until) (omega (arith, h)) i ++ shortened (take-append-le m xs (ended x until) (omega (arith, h)) i) untils)
          ∙ append_assoc (drop m xs) (ended x until) (shortened (take m xs) untils)
          ∙ e,
    )

pub turned-at : (n m : ℕ) (items : List Item) (until : Option ℕ) (now rest : List (Option ℕ)) (later total : List Item)
    → ((d : Item) → 0 < length items → later ≡ drop 1 items ++ ended (slice_index_or items 0 d) until)
    → n ≡ suc m
    → now ≡ until ∷ rest
    → n ≤ length items
    → drop n items ++ shortened (take n items) now ≡ total
    → (m ≤ length later) × (drop m later ++ shortened (take m later) rest ≡ total)
turned-at n m items until now rest later total given is step h e =
    turned m items until rest later total (omega (arith, is, h)) given
    (sym (λ j. drop (is j) items ++ shortened (take (is j) items) (step j)) ∙ e)
