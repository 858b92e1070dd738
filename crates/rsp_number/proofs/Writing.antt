-- What digits write, and the shortest form of it.
use Rattle.std.specs.Prelude.{◌≡◌, ◌≢◌, ℕ, suc, ◌+◌, ◌-◌, ◌*◌, ◌%◌, ◌<◌, ◌≤◌, Bool, true, false, cond, ◌&&◌, nat_le, List, [], ◌∷◌, ◌++◌, length, drop, get_or, Some, None, refl}
use Rattle.std.specs.Char.{is_ascii_digit}
use Rattle.std.proofs.Common.{sym, ◌∙◌, ap, arith, add-zero}
use Rattle.std.proofs.lemmas.Bool.Decides.{nat_tests}
use Rattle.std.proofs.lemmas.Bool.{true≢false}
use Rattle.std.proofs.Math.Seq.{drop-cons}
use Rattle.rsp_number.proofs.Shortest.{unsigned_abs-signed, shortest-zero, shortest-other}
use Rattle.rsp_number.specs.Decimals.{largest, most_digits, with_sign, shortest_form}
use Rattle.rsp_number.specs.Texts.{are_digits, number_after, exact_decimal}

pub number-grows : (n : ℕ) (digits : List ℕ) → n ≤ number_after n digits
number-grows n [] = omega arith
number-grows n (digit ∷ rest) = let grown = number-grows (n * 10 + (digit - 48)) rest in omega arith

pub number-append : (n : ℕ) (xs ys : List ℕ) → number_after n (xs ++ ys) ≡ number_after (number_after n xs) ys
number-append n [] ys = refl
number-append n (digit ∷ rest) ys = number-append (n * 10 + (digit - 48)) rest ys

-- a digit that leads past the range leads past it whatever follows
pub past-next : (size i whole : ℕ) (xs : List ℕ) → i < length xs → largest < size * 10 + (get_or xs i 0 - 48)
    → number_after size (drop i xs) ≡ whole → whole ≤ largest → ⊥
past-next size i whole xs within past is fits =
    let opened = ap (number_after size) (drop-cons xs i 0 within) in
    let grown = number-grows (size * 10 + (get_or xs i 0 - 48)) (drop (suc i) xs) in
    omega (arith, sym opened ∙ is)

split-digits : (b c : Bool) → (b && c) ≡ true → (b ≡ true) × (c ≡ true)
split-digits true true both = (refl, refl)
split-digits true false both = absurd (true≢false (sym both))
split-digits false c both = absurd (true≢false (sym both))

pub digits-before : (rest : List ℕ) (last : ℕ) → are_digits (rest ++ last ∷ []) ≡ true → (are_digits rest ≡ true) × (is_ascii_digit last ≡ true)
digits-before [] last digits = (refl, (split-digits _ _ digits).0)
digits-before (digit ∷ rest) last digits =
    let both = split-digits (is_ascii_digit digit) (are_digits (rest ++ last ∷ [])) digits in
    let here = digits-before rest last both.1 in
    (rw (both.0, here.0) refl, here.1)

length-push : (rest : List ℕ) (last : ℕ) → length (rest ++ last ∷ []) ≡ suc (length rest)
length-push [] last = refl
length-push (digit ∷ rest) last = ap suc (length-push rest last)

-- a zero at the end of the digits behind the point changes nothing
pub without-zero : (rest : List ℕ) (negative : Bool) (n : ℕ)
    → shortest_form negative (number_after n (rest ++ 48 ∷ [])) (length (rest ++ 48 ∷ [])) ≡ shortest_form negative (number_after n rest) (length rest)
without-zero rest negative n =
    rw (number-append n rest (48 ∷ []), length-push rest 48, add-zero (number_after n rest * 10))
    (shortest-zero negative (number_after n rest) (length rest))

last-digit : (size last : ℕ) → is_ascii_digit last ≡ true → last ≢ 48 → (size * 10 + (last - 48)) % 10 ≢ 0
last-digit size last digit other =
    let both = split-digits (nat_le 48 last) (nat_le last 57) digit in
    let low : 48 ≤ last = grind (arith, nat_tests) in
    let high : last ≤ 57 = grind (arith, nat_tests) in
    λ none. other (omega arith)

-- another digit at the end is the end
pub up-to-digit : (rest : List ℕ) (last : ℕ) (negative : Bool) (n : ℕ) → is_ascii_digit last ≡ true → last ≢ 48
    → shortest_form negative (number_after n (rest ++ last ∷ [])) (length (rest ++ last ∷ []))
    ≡ record { coefficient = with_sign negative (number_after n (rest ++ last ∷ [])); scale = length (rest ++ last ∷ []) }
up-to-digit rest last negative n digit other =
    rw (length-push rest last, number-append n rest (last ∷ []))
    (shortest-other negative _ _ (last-digit (number_after n rest) last digit other))

-- the exact decimal, by its shortest form
exactly-is : (negative : Bool) (size scale m s : ℕ) → shortest_form negative size scale ≡ record { coefficient = with_sign negative m; scale = s }
    → exact_decimal negative size scale ≡ cond (nat_le s most_digits && nat_le m largest) (Some (record { coefficient = with_sign negative m; scale = s })) None
exactly-is negative size scale m s is = rw (is, unsigned_abs-signed negative m) refl

pub exactly-many : (negative : Bool) (size scale m s : ℕ) → shortest_form negative size scale ≡ shortest_form negative m s
    → shortest_form negative m s ≡ record { coefficient = with_sign negative m; scale = s } → most_digits < s → None ≡ exact_decimal negative size scale
exactly-many negative size scale m s same is many =
    let fails : nat_le s most_digits ≡ false = grind (arith, nat_tests) in
    sym (exactly-is negative size scale m s (same ∙ is) ∙ rw fails refl)

pub exactly-past : (negative : Bool) (size scale m s : ℕ) → shortest_form negative size scale ≡ shortest_form negative m s
    → shortest_form negative m s ≡ record { coefficient = with_sign negative m; scale = s } → s ≤ most_digits → (m ≤ largest → ⊥) → None ≡ exact_decimal negative size scale
exactly-past negative size scale m s same is few past =
    let fits : nat_le s most_digits ≡ true = grind (arith, nat_tests) in
    let fails : nat_le m largest ≡ false = grind (arith, nat_tests) in
    sym (exactly-is negative size scale m s (same ∙ is) ∙ rw (fits, fails) refl)

pub exactly-some : (negative : Bool) (size scale m s : ℕ) → shortest_form negative size scale ≡ shortest_form negative m s
    → shortest_form negative m s ≡ record { coefficient = with_sign negative m; scale = s } → s ≤ most_digits → m ≤ largest
    → Some (shortest_form negative m s) ≡ exact_decimal negative size scale
exactly-some negative size scale m s same is few fit =
    let first : nat_le s most_digits ≡ true = grind (arith, nat_tests) in
    let second : nat_le m largest ≡ true = grind (arith, nat_tests) in
    ap Some is ∙ sym (exactly-is negative size scale m s (same ∙ is) ∙ rw (first, second) refl)

-- the steps of the code that leaves the last zeros out

pub ends-here : (xs rest : List ℕ) (last : ℕ) → xs ≡ rest ++ last ∷ [] → are_digits xs ≡ true → last ≢ 48 → (negative : Bool) (n : ℕ)
    → shortest_form negative (number_after n xs) (length xs) ≡ record { coefficient = with_sign negative (number_after n xs); scale = length xs }
ends-here xs rest last is digits other negative n =
    rw is (up-to-digit rest last negative n ((digits-before rest last (rw is at digits)).1) other)

pub zero-goes : (xs rest : List ℕ) (last : ℕ) → xs ≡ rest ++ last ∷ [] → last ≡ 48 → (negative : Bool) (n : ℕ)
    → shortest_form negative (number_after n xs) (length xs) ≡ shortest_form negative (number_after n rest) (length rest)
zero-goes xs rest last is zero-last-digit negative n = rw (is, zero-last-digit) (without-zero rest negative n)

pub rest-digits : (xs rest : List ℕ) (last : ℕ) → xs ≡ rest ++ last ∷ [] → are_digits xs ≡ true → are_digits rest ≡ true
rest-digits xs rest last is digits = (digits-before rest last (rw is at digits)).0
