-- A pass over a text keeps the place where the longest accepted front ends so far.
use Rattle.std.proofs.Common.{◌≡◌, ℕ, zero, suc, ◌+◌, ◌<◌, ◌≤◌, Bool, true, false, List, ◌∷◌, length, drop, get_or, refl, arith, if◌then◌else◌, Some, None, add-one, drop-cons, drop_of_length-le}
use Rattle.std.specs.Prelude.{◌==◌}
use Rattle.std.proofs.lemmas.Bool.Decides.{nat_tests}
use Rattle.rsp_scan.specs.Machines.{Machine}
use Rattle.rsp_scan.specs.Scans.{lengthened, scan}

-- where it ends, with n items that are still to be read
abbrev pub best : ℕ → ℕ → ℕ → ℕ
best end place n = if n == 0 then end else place + n

not_zero : (n : ℕ) → (suc n == 0) ≡ false
not_zero n = grind (arith, nat_tests)

pub best_lengthened : (ends : Bool) (n end place : ℕ)
    → best end place (lengthened ends n) ≡ best (if ends then place + 1 else end) (place + 1) n
best_lengthened true zero end place = refl
best_lengthened false zero end place = refl
best_lengthened ends (suc n) end place =
    let test = not_zero n in
    let more = not_zero (suc n) in
    rw (test, more) (omega arith)

pub drop_next : (xs : List ℕ) (i : ℕ) → i < length xs → drop i xs ≡ get_or xs i 0 ∷ drop (i + 1) xs
drop_next xs i within = rw add-one (drop-cons xs i 0 within)

module _ {S : Type 0} (m : Machine S) (s : S) (xs : List ℕ) (i end : ℕ) where
  pub stops : i < length xs → m.step s (get_or xs i 0) ≡ None → best end i (scan m s (drop i xs)) ≡ end
  unfolding scan
  stops within none = rw (drop_next xs i within, none) refl

  pub goes : (t : S) → i < length xs → m.step s (get_or xs i 0) ≡ Some t
      → best end i (scan m s (drop i xs)) ≡ best (if m.ends t then i + 1 else end) (i + 1) (scan m t (drop (i + 1) xs))
  unfolding scan
  goes t within some =
      rw (drop_next xs i within, some) (best_lengthened (m.ends t) (scan m t (drop (i + 1) xs)) end i)

  pub is_read : length xs ≤ i → best end i (scan m s (drop i xs)) ≡ end
  unfolding scan
  is_read past = rw (drop_of_length-le xs past) refl

  pub end_within : (t : S) → end ≤ i → (if m.ends t then i + 1 else end) ≤ i + 1
  end_within t within = by (m.ends t)
    where
      by : (b : Bool) → (if b then i + 1 else end) ≤ i + 1
      by true = omega arith
      by false = omega arith
