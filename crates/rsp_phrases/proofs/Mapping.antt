-- The same parts read with other values.
use Rattle.std.proofs.Common.{◌≡◌, ℕ, zero, suc, Bool, true, false, cond, List, [], ◌∷◌, refl, sym, ap, ◌∙◌, Some, None, Ok, Err}
use Rattle.rsp_phrases.specs.Languages.{listed}
use Rattle.rsp_phrases.specs.Readers.{Reading, Reader, starts, image, tied_from, beside, at_most_read}

module _ {T A B : Type 0} (kind : T → ℕ) (kinds : List ℕ) (r : Reader T A) (q : Reader T B) (f : A → B) (g : List A → List B)
    (nil : g [] ≡ []) (cons : (x : A) (xs : List A) → g (x ∷ xs) ≡ f x ∷ g xs) (each : (ts : List T) → q ts ≡ image f (r ts)) where
  put : (x : A) (c : Reading T (List A)) → image listed (image Some (beside (f x) (image g c))) ≡ image g (image listed (image Some (beside x c)))
  put x (Ok z) = ap (λ ys. Ok (ys, z.1)) (sym (cons x z.0))
  put x (Err left) = refl

  part : (n : ℕ) → ((ts : List T) → at_most_read kind kinds q n ts ≡ image g (at_most_read kind kinds r n ts)) → (a : Reading T A)
      → image listed (image Some (tied_from (image f a) (λ v. at_most_read kind kinds q n)))
      ≡ image g (image listed (image Some (tied_from a (λ v. at_most_read kind kinds r n))))
  part n rest (Ok x) =
      ap (λ c. image listed (image Some (beside (f x.0) c))) (rest x.1) ∙ put x.0 (at_most_read kind kinds r n x.1)
  part n rest (Err left) = refl

  choice : (n : ℕ) → ((ts : List T) → at_most_read kind kinds q n ts ≡ image g (at_most_read kind kinds r n ts)) → (ts : List T) (b : Bool)
      → image listed (cond b (image Some (tied_from (q ts) (λ v. at_most_read kind kinds q n))) (Ok (None, ts)))
      ≡ image g (image listed (cond b (image Some (tied_from (r ts) (λ v. at_most_read kind kinds r n))) (Ok (None, ts))))
  choice n rest ts true =
      ap (λ a. image listed (image Some (tied_from a (λ v. at_most_read kind kinds q n)))) (each ts) ∙ part n rest (r ts)
  choice n rest ts false = ap (λ ys. Ok (ys, ts)) (sym nil)

  at_most_mapped_at : (n : ℕ) (ts : List T) → at_most_read kind kinds q n ts ≡ image g (at_most_read kind kinds r n ts)
  unfolding at_most_read
  at_most_mapped_at zero ts = ap (λ ys. Ok (ys, ts)) (sym nil)
  at_most_mapped_at (suc n) ts = choice n (λ us. at_most_mapped_at n us) ts (starts kind kinds ts)

pub at_most_mapped : {T A B : Type 0} (kind : T → ℕ) (kinds : List ℕ) (r : Reader T A) (q : Reader T B) (f : A → B) (g : List A → List B)
    → g [] ≡ [] → ((x : A) (xs : List A) → g (x ∷ xs) ≡ f x ∷ g xs) → ((ts : List T) → q ts ≡ image f (r ts))
    → (n : ℕ) (ts : List T) → at_most_read kind kinds q n ts ≡ image g (at_most_read kind kinds r n ts)
at_most_mapped kind kinds r q f g nil cons each = at_most_mapped_at kind kinds r q f g nil cons each
