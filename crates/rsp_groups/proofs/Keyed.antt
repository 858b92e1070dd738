-- The rows of a key, in lists into which copies of a row come, or of which they go.
use Rattle.std.proofs.Common.{◌≡◌, ℕ, zero, suc, Bool, true, false, cond, ◌||◌, true≢false, List, [], ◌∷◌, ◌++◌, length, filter, refl, sym, ap, subst, ◌∙◌, arith}
use Rattle.std.specs.Prelude.{Option, Some, IfSome}
use Rattle.std.specs.List.{list_any}
use Rattle.rsp_expr.specs.Groups.{group_of}
use Rattle.rsp_folds.specs.Copies.{copies}
use Rattle.rsp_groups.specs.Moves.{Moved}
use Rattle.rsp_multiset.specs.Rows.{Cells, row_eq}
use Rattle.rsp_multiset.specs.RowSame.{row_decides}
use Rattle.rsp_multiset.specs.Variables.{projection}
use Rattle.rsp_terms.specs.declared.term.Term.{Term}
use Rattle.rsp_terms.specs.Same.{term_eq, term_same}

-- ---- the rows of a key

abbrev same_row : Cells Term → Cells Term → Bool
same_row = row_eq term_eq

row_is : (a b : Cells Term) → same_row a b ≡ true → a ≡ b
row_is a b h = (row_decides term_same a b).0 h

row_itself : (a : Cells Term) → same_row a a ≡ true
row_itself a = (row_decides term_same a a).1 refl

module _ {E : Type 0} (p : E → Bool) where
  filter-append : (xs ys : List E) → filter p (xs ++ ys) ≡ filter p xs ++ filter p ys
  filter-append [] ys = refl
  filter-append (x ∷ xs) ys = by (p x) (filter-append xs ys)
    where
      by : (b : Bool) → filter p (xs ++ ys) ≡ filter p xs ++ filter p ys
          → cond b (x ∷ filter p (xs ++ ys)) (filter p (xs ++ ys)) ≡ cond b (x ∷ filter p xs) (filter p xs) ++ filter p ys
      by true rest = ap (λ zs. x ∷ zs) rest
      by false rest = rest

  filter-copies : (n : ℕ) (x : E) → p x ≡ true → filter p (copies n x) ≡ copies n x
  filter-copies zero x is = refl
  filter-copies (suc n) x is = λ i. cond (is i) (x ∷ filter-copies n x is i) (filter-copies n x is i)

  filter-none : (n : ℕ) (x : E) → p x ≡ false → filter p (copies n x) ≡ []
  filter-none zero x is = refl
  filter-none (suc n) x is = λ i. cond (is i) (x ∷ filter-none n x is i) (filter-none n x is i)

  kept-more : (n : ℕ) (x : E) (xs ys : List E) → p x ≡ true → ys ≡ copies n x ++ xs → filter p ys ≡ copies n x ++ filter p xs
  kept-more n x xs ys is split = ap (filter p) split ∙ filter-append (copies n x) xs ∙ ap (λ zs. zs ++ filter p xs) (filter-copies n x is)

  kept-same : (n : ℕ) (x : E) (xs ys : List E) → p x ≡ false → ys ≡ copies n x ++ xs → filter p ys ≡ filter p xs
  kept-same n x xs ys is split = ap (filter p) split ∙ filter-append (copies n x) xs ∙ ap (λ zs. zs ++ filter p xs) (filter-none n x is)

  pub filter-moved : (out : Bool) (n : ℕ) (x : E) (before after : List E) → p x ≡ true → Moved out n x before after
      → Moved out n x (filter p before) (filter p after)
  filter-moved false n x before after is moved = kept-more n x before after is moved
  filter-moved true n x before after is moved = kept-more n x after before is moved

  pub filter-unmoved : (out : Bool) (n : ℕ) (x : E) (before after : List E) → p x ≡ false → Moved out n x before after
      → filter p before ≡ filter p after
  filter-unmoved false n x before after is moved = sym (kept-same n x before after is moved)
  filter-unmoved true n x before after is moved = kept-same n x after before is moved

  any-append : (xs ys : List E) → list_any p (xs ++ ys) ≡ (list_any p xs || list_any p ys)
  any-append [] ys = refl
  any-append (x ∷ xs) ys = by (p x) (any-append xs ys)
    where
      by : (b : Bool) → list_any p (xs ++ ys) ≡ (list_any p xs || list_any p ys) → (b || list_any p (xs ++ ys)) ≡ ((b || list_any p xs) || list_any p ys)
      by true rest = refl
      by false rest = rest

  any-copies : (n : ℕ) (x : E) → p x ≡ false → list_any p (copies n x) ≡ false
  any-copies zero x is = refl
  any-copies (suc n) x is = λ i. is i || any-copies n x is i

  any-same : (n : ℕ) (x : E) (xs ys : List E) → p x ≡ false → ys ≡ copies n x ++ xs → list_any p ys ≡ list_any p xs
  any-same n x xs ys is split = ap (list_any p) split ∙ any-append (copies n x) xs ∙ ap (λ b. b || list_any p xs) (any-copies n x is)

  pub any-unmoved : (out : Bool) (n : ℕ) (x : E) (before after : List E) → p x ≡ false → Moved out n x before after
      → list_any p after ≡ list_any p before
  any-unmoved false n x before after is moved = any-same n x before after is moved
  any-unmoved true n x before after is moved = sym (any-same n x after before is moved)

  pub none-left : (xs : List E) → list_any p xs ≡ false → filter p xs ≡ []
  none-left [] none = refl
  none-left (x ∷ xs) none = by (p x) none (none-left xs)
    where
      by : (b : Bool) → (b || list_any p xs) ≡ false → (list_any p xs ≡ false → filter p xs ≡ []) → cond b (x ∷ filter p xs) (filter p xs) ≡ []
      by true none rest = absurd (true≢false none)
      by false none rest = rest none

  pub some-left : (xs : List E) → list_any p xs ≡ true → length (filter p xs) ≡ 0 → ⊥
  some-left [] some none = true≢false (sym some)
  some-left (x ∷ xs) some none = by (p x) some none (some-left xs)
    where
      by : (b : Bool) → (b || list_any p xs) ≡ true → length (cond b (x ∷ filter p xs) (filter p xs)) ≡ 0
          → (list_any p xs ≡ true → length (filter p xs) ≡ 0 → ⊥) → ⊥
      by true some none rest = omega (arith, none)
      by false some none rest = rest some none

pub group_of-moved : (width : ℕ) (keys : List ℕ) (key : Cells Term) (out : Bool) (n : ℕ) (row : Cells Term) (before after : List (Cells Term))
    → projection width keys row ≡ key → Moved out n row before after
    → Moved out n row (group_of width keys before key) (group_of width keys after key)
group_of-moved width keys key out n row before after is moved =
    filter-moved (λ r. same_row key (projection width keys r)) out n row before after (ap (same_row key) is ∙ row_itself key) moved

-- what holds of what is found
pub found-has : {G : Type 0} (P : G → Type 0) (found : Option G) (g : G) → found ≡ Some g → IfSome found P → P g
found-has P found g is have = subst (λ w. IfSome w P) is have
