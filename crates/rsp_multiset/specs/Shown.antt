-- Definitions: values that show others, as the cells of a row show terms. What entries hold of a value that is shown is added up
-- over those that show it, so that no two of them need to be kept apart.
use Rattle.std.specs.Prelude.{◌≡◌, Bool, Option, List, map, ℤ, pos, ◌+ℤ◌, IfSome, IsTrue}
use Rattle.std.specs.List.{AllByRecursion}
use Rattle.std.specs.Option.{option_map}
use Rattle.rsp_multiset.specs.Rows.{Cells}
use Rattle.rsp_multiset.specs.Weights.{only, total, times}

-- a row shown cell by cell; what is unbound stays so
abbrev pub shown_row : {V W : Type 0} → (V → W) → Cells V → Cells W
shown_row shown row = map (option_map shown) row

-- the row's cells are known
abbrev pub IsKnown : {V : Type 0} → (V → Type 0) → Cells V → Type 0
IsKnown {V} knows row = AllByRecursion (λ (value : Option V). IfSome value knows) row

-- what passes a test, as what is known
abbrev pub Passes : {V : Type 0} → (V → Bool) → V → Type 0
Passes test value = IsTrue (test value)

-- known values that show the same are the same
abbrev pub AreToldApart : {V W : Type 0} → (V → Type 0) → (V → W) → Type 0
AreToldApart {V} knows shown = (x y : V) → knows x → knows y → shown x ≡ shown y → x ≡ y

-- how much the entries hold of q by what they show
abbrev pub weight_shown : {E F : Type 0} → (F → F → Bool) → (E → F) → List (E × ℤ) → F → ℤ
weight_shown eq shown entries q = total (λ x. only (eq q (shown x)) (pos 1)) entries

-- by what they show, the entries hold each value as often as the list
abbrev pub HoldsShown : {E F : Type 0} → (F → F → Bool) → (E → F) → List (E × ℤ) → List F → Type 0
HoldsShown {E} {F} eq shown entries xs = (q : F) → weight_shown eq shown entries q ≡ times eq xs q

-- the second list holds each value as often as the first and what the change shows together
abbrev pub IsChangedShown : {E F : Type 0} → (F → F → Bool) → (E → F) → List F → List (E × ℤ) → List F → Type 0
IsChangedShown {E} {F} eq shown before entries after =
    (q : F) → times eq after q ≡ times eq before q +ℤ weight_shown eq shown entries q
