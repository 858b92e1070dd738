-- What is written of a number reads as the number again.
use Rattle.std.proofs.Common.{◌≡◌, ℕ, zero, suc, ◌+◌, ◌-◌, ◌*◌, ◌/◌, ◌%◌, ◌^◌, ◌<◌, ◌≤◌, Bool, true, false, cond, List, [], ◌∷◌, ◌++◌, length, length-append, Some, None, Result, Ok, Err, subst, refl, sym, ap, ◌∙◌, arith, ⊎_elim}
use Rattle.std.specs.Prelude.{◌≢◌, ◌⊎◌, ◌==◌, ◌&&◌, not, nat_le, ℤ, pos, negsuc, unsigned_abs, IfOk, if◌then◌else◌}
use Rattle.std.specs.Fmt.{decimal}
use Rattle.std.proofs.lemmas.Bool.Decides.{nat_tests}
use Rattle.std.proofs.lemmas.Fmt.{decimal_by_steps}
use Rattle.std.proofs.lemmas.List.{append-nil}
use Rattle.std.proofs.Math.Nat.{div-div-eq-div-mul, div-le_self, pow-suc, mul_comm}
use Rattle.rsp_number.specs.Decimals.{largest, most_digits, integer_in_range, with_sign, is_below_zero, Scaled, IsDecimal, shortest_form}
use Rattle.std.specs.Char.{is_ascii_digit}
use Rattle.rsp_number.specs.Texts.{is_sign, is_negative, without_sign, are_digits, before_point, behind_point, number_after, has_integer_form, value_or_beyond, exact_decimal, read_decimal}
use Rattle.rsp_number.specs.declared.reading.Reading.{Reading}
use Rattle.rsp_number.specs.declared.reading.Reading.TheVariants.{Value, NotForm}
use Rattle.rsp_number.specs.declared.number.Number.{Number}
use Rattle.rsp_number.specs.declared.number.Number.TheVariants as number
use Rattle.rsp_terms.specs.declared.term.Term.{Term}
use Rattle.rsp_expr.specs.declared.datatypes.WholeType.TheVariants.{Integer}
use Rattle.rsp_expr.specs.Forms.{reading_map, value_in, whole_number, whole_reading, number_of}
use Rattle.rsp_expr.specs.Numerals.{sign_text, last_digits, fraction_text, numeral_literal}

-- ---- digits

number-append : (n : ℕ) (xs ys : List ℕ) → number_after n (xs ++ ys) ≡ number_after (number_after n xs) ys
number-append n [] ys = refl
number-append n (digit ∷ rest) ys = number-append (n * 10 + (digit - 48)) rest ys

digits-append : (xs ys : List ℕ) → are_digits xs ≡ true → are_digits ys ≡ true → are_digits (xs ++ ys) ≡ true
digits-append [] ys first second = second
digits-append (x ∷ xs) ys first second = both (is_ascii_digit x) (are_digits xs) (are_digits (xs ++ ys)) first
    (λ others. digits-append xs ys others second)
  where
    both : (a b c : Bool) → (a && b) ≡ true → (b ≡ true → c ≡ true) → (a && c) ≡ true
    both true b c h f = f h
    both false b c h f = cc

one_digit : (n : ℕ) → n < 10 → are_digits ((48 + n) ∷ []) ≡ true
one_digit n below = grind (arith, nat_tests)

pub record Writes (n : ℕ) (ds : List ℕ) : Type 0 where
  pub digits : are_digits ds ≡ true
  pub value : number_after 0 ds ≡ n
  pub some : 0 < length ds

pub decimal_writes : (n : ℕ) → n < 2 ^ 64 → Writes n (decimal n)
decimal_writes n small = decimal_by_steps Writes one more n small
  where
    one : (n : ℕ) → n < 10 → Writes n ((48 + n) ∷ [])
    one n below = record { digits = one_digit n below; value = omega arith; some = omega arith }

    more : (n : ℕ) (ds : List ℕ) → 10 ≤ n → Writes (n / 10) ds → Writes n (ds ++ ((48 + n % 10) ∷ []))
    more n ds large held =
        let last = (48 + n % 10) ∷ [] in
        record {
          digits = digits-append ds last held.digits (one_digit (n % 10) (omega arith));
          value = number-append 0 ds last ∙ ap (λ m. m * 10 + (48 + n % 10 - 48)) held.value ∙ omega arith;
          some = omega (arith, length-append ds last);
        }

length-last_digits : (count n : ℕ) → length (last_digits count n) ≡ count
length-last_digits zero n = refl
length-last_digits (suc count) n =
    length-append (last_digits count (n / 10)) ((48 + n % 10) ∷ []) ∙ omega (arith, length-last_digits count (n / 10))

last_digits-digits : (count n : ℕ) → are_digits (last_digits count n) ≡ true
last_digits-digits zero n = refl
last_digits-digits (suc count) n =
    digits-append (last_digits count (n / 10)) ((48 + n % 10) ∷ []) (last_digits-digits count (n / 10))
    (one_digit (n % 10) (omega arith))

-- behind the rest of a number they write it
last_digits-value : (count n : ℕ) → number_after (n / 10 ^ count) (last_digits count n) ≡ n
last_digits-value zero n = omega arith
last_digits-value (suc count) n =
    let last = (48 + n % 10) ∷ [] in
    let rest : n / 10 ^ suc count ≡ n / 10 / 10 ^ count =
    ap (λ m. n / m) (pow-suc 10 count ∙ mul_comm (10 ^ count) 10) ∙ sym (div-div-eq-div-mul n 10 (10 ^ count)) in
    number-append (n / 10 ^ suc count) (last_digits count (n / 10)) last
    ∙ ap (λ m. number_after (number_after m (last_digits count (n / 10))) last) rest
    ∙ ap (λ m. m * 10 + (48 + n % 10 - 48)) (last_digits-value count (n / 10))
    ∙ omega arith

-- ---- signs and points

first_digit : (d : ℕ) (b : Bool) → (is_ascii_digit d && b) ≡ true → (is_sign d ≡ false) × ((d == 45) ≡ false)
first_digit d b h = (grind (arith, nat_tests), grind (arith, nat_tests))

-- a text whose first byte is a digit
pub record Begins (text : List ℕ) : Type 0 where
  pub first : ℕ
  pub rest : List ℕ
  pub is : text ≡ first ∷ rest
  pub without_sign : is_sign first ≡ false
  pub positive : (first == 45) ≡ false

begins : (ds ys : List ℕ) → are_digits ds ≡ true → 0 < length ds → Begins (ds ++ ys)
begins [] ys digits some = absurd (omega arith)
begins (d ∷ ds) ys digits some =
    let facts = first_digit d (are_digits ds) digits in
    record { first = d; rest = ds ++ ys; is = refl; without_sign = facts.0; positive = facts.1 }

pub record Signs (negative : Bool) (body text : List ℕ) : Type 0 where
  pub sign : is_negative text ≡ negative
  pub rest : without_sign text ≡ body

bare : (body : List ℕ) → Begins body → Signs false body body
bare body start = record {
  sign = ap is_negative start.is ∙ start.positive;
  rest = ap without_sign start.is ∙ rw start.without_sign (sym start.is);
}

signs_by : (n : ℤ) (negative : Bool) (body : List ℕ) → is_below_zero n ≡ negative → Begins body
    → Signs negative body (sign_text n ++ body)
signs_by n true body is start = rw is (record { sign = refl; rest = refl })
signs_by n false body is start = rw is (bare body start)

signs : (n : ℤ) (body : List ℕ) → Begins body → Signs (is_below_zero n) body (sign_text n ++ body)
signs n body start = signs_by n (is_below_zero n) body refl start

pub signed-is : (n : ℤ) → with_sign (is_below_zero n) (unsigned_abs n) ≡ n
signed-is (pos n) = let not_below : is_below_zero (pos n) ≡ false = grind (arith, nat_tests) in rw not_below refl
signed-is (negsuc n) = refl

no_point : (d : ℕ) (b : Bool) → (is_ascii_digit d && b) ≡ true → (d == 46) ≡ false
no_point d b h = grind (arith, nat_tests)

others : (a b : Bool) → (a && b) ≡ true → b ≡ true
others true b h = h
others false b h = cc

before-digits : (ds : List ℕ) → are_digits ds ≡ true → before_point ds ≡ ds
before-digits [] digits = refl
before-digits (d ∷ ds) digits =
    rw (no_point d (are_digits ds) digits) (ap (λ xs. d ∷ xs)
    (before-digits ds (others (is_ascii_digit d) (are_digits ds) digits)))

behind-digits : (ds : List ℕ) → are_digits ds ≡ true → behind_point ds ≡ []
behind-digits [] digits = refl
behind-digits (d ∷ ds) digits = rw (no_point d (are_digits ds) digits)
    (behind-digits ds (others (is_ascii_digit d) (are_digits ds) digits))

before-parts : (ds fs : List ℕ) → are_digits ds ≡ true → before_point (ds ++ (46 ∷ fs)) ≡ ds
before-parts [] fs digits = refl
before-parts (d ∷ ds) fs digits =
    rw (no_point d (are_digits ds) digits) (ap (λ xs. d ∷ xs)
    (before-parts ds fs (others (is_ascii_digit d) (are_digits ds) digits)))

behind-parts : (ds fs : List ℕ) → are_digits ds ≡ true → behind_point (ds ++ (46 ∷ fs)) ≡ fs
behind-parts [] fs digits = refl
behind-parts (d ∷ ds) fs digits = rw (no_point d (are_digits ds) digits)
    (behind-parts ds fs (others (is_ascii_digit d) (are_digits ds) digits))

-- ---- integers

not_none : (n : ℕ) → 0 < n → not (n == 0) ≡ true
not_none n some = grind (arith, nat_tests)

held-is : (n : ℤ) → unsigned_abs n ≤ largest → integer_in_range n ≡ Some n
held-is n fits = let within : nat_le (unsigned_abs n) largest ≡ true = grind (arith, nat_tests) in rw within refl

whole_text : (n : ℤ) (text ds : List ℕ) → Writes (unsigned_abs n) ds → Signs (is_below_zero n) ds text
    → unsigned_abs n ≤ largest
    → whole_reading (None, None) text ≡ Value n
whole_text n text ds writes signs fits =
    let is : whole_number text ≡ n =
    ap (λ negative. with_sign negative (number_after 0 (without_sign text))) signs.sign
    ∙ ap (λ xs. with_sign (is_below_zero n) (number_after 0 xs)) signs.rest
    ∙ ap (with_sign (is_below_zero n)) writes.value
    ∙ signed-is n in
    let form : has_integer_form text ≡ true =
    ap (λ xs. are_digits xs && not (length xs == 0)) signs.rest
    ∙ rw (writes.digits, not_none (length ds) writes.some) refl in
    ap (λ b. if b && true then value_or_beyond (integer_in_range (whole_number text)) else NotForm) form
    ∙ ap (λ z. value_or_beyond (integer_in_range z)) is
    ∙ ap value_or_beyond (held-is n fits)

pub integer_read_back : (n : ℤ) → unsigned_abs n ≤ largest
    → number_of (numeral_literal (number.Integer n)) ≡ Some (number.Integer n)
integer_read_back n fits =
    let ds = decimal (unsigned_abs n) in
    let writes = decimal_writes (unsigned_abs n) (omega arith) in
    let start : Begins ds = subst Begins (append-nil ds) (begins ds [] writes.digits writes.some) in
    ap (λ r. value_in (Some (reading_map number.Integer r)))
    (whole_text n (sign_text n ++ ds) ds writes (signs n ds start) fits)

-- ---- decimals

pub record Parts (ds fs body : List ℕ) : Type 0 where
  pub before : before_point body ≡ ds
  pub behind : behind_point body ≡ fs

parts_of : (scale size : ℕ) (ds : List ℕ) → are_digits ds ≡ true
    → Parts ds (last_digits scale size) (ds ++ fraction_text scale size)
parts_of zero size ds digits = record {
  before = ap before_point (append-nil ds) ∙ before-digits ds digits;
  behind = ap behind_point (append-nil ds) ∙ behind-digits ds digits;
}
parts_of (suc scale) size ds digits = record {
  before = before-parts ds (last_digits (suc scale) size) digits;
  behind = behind-parts ds (last_digits (suc scale) size) digits;
}

shortest_is : (c : ℤ) (scale : ℕ) → (scale ≡ 0) ⊎ (unsigned_abs c % 10 ≢ 0)
    → shortest_form (is_below_zero c) (unsigned_abs c) scale ≡ record { coefficient = c; scale = scale }
shortest_is c zero ends = ap (λ z. let number : Scaled = record { coefficient = z; scale = 0 } in number) (signed-is c)
shortest_is c (suc scale) ends =
    let last : (unsigned_abs c % 10 == 0) ≡ false = ⊎_elim (λ none. absurd (omega arith))
    (λ some. not_zero (unsigned_abs c % 10) some) ends in
    rw last (ap (λ z. let number : Scaled = record { coefficient = z; scale = suc scale } in number) (signed-is c))
  where
    not_zero : (n : ℕ) → n ≢ 0 → (n == 0) ≡ false
    not_zero n some = grind (arith, nat_tests)

exactly_is : (d : Scaled) → IsDecimal d → exact_decimal (is_below_zero d.coefficient) (unsigned_abs d.coefficient) d.scale
    ≡ Some d
exactly_is d is =
    let few : nat_le d.scale most_digits ≡ true = let within = is.scale_fits in grind (arith, nat_tests) in
    let fits : nat_le (unsigned_abs d.coefficient) largest
    ≡ true = let within = is.coefficient_fits in grind (arith, nat_tests) in
    ap (λ (x : Scaled). cond (nat_le x.scale most_digits && nat_le (unsigned_abs x.coefficient) largest) (Some x) None)
    (shortest_is d.coefficient d.scale is.no_trailing_zero)
    ∙ rw (few, fits) refl

abbrev pub reading_of_parts : Bool → List ℕ → List ℕ → Reading Scaled
reading_of_parts negative ds fs =
    cond (are_digits ds && (are_digits fs && not (length ds + length fs == 0)))
    (value_or_beyond (exact_decimal negative (number_after 0 (ds ++ fs)) (length fs)))
    NotForm

some_digits : (m n : ℕ) → 0 < m → not (m + n == 0) ≡ true
some_digits m n some = grind (arith, nat_tests)

parts_read : (d : Scaled) (ds : List ℕ) → IsDecimal d → Writes (unsigned_abs d.coefficient / 10 ^ d.scale) ds
    → reading_of_parts (is_below_zero d.coefficient) ds (last_digits d.scale (unsigned_abs d.coefficient)) ≡ Value d
parts_read d ds is writes =
    let size = unsigned_abs d.coefficient in
    let fs = last_digits d.scale size in
    let number : number_after 0 (ds ++ fs) ≡ size =
    number-append 0 ds fs ∙ ap (λ n. number_after n fs) writes.value ∙ last_digits-value d.scale size in
    rw (writes.digits, last_digits-digits d.scale size, some_digits (length ds) (length fs) writes.some)
    (ap (λ n. value_or_beyond (exact_decimal (is_below_zero d.coefficient) n (length fs))) number
    ∙ ap (λ n. value_or_beyond (exact_decimal (is_below_zero d.coefficient) size n)) (length-last_digits d.scale size)
    ∙ ap value_or_beyond (exactly_is d is))

pub decimal_read_back : (d : Scaled) → IsDecimal d
    → number_of (numeral_literal (number.Decimal d)) ≡ Some (number.Decimal d)
decimal_read_back d is =
    let size = unsigned_abs d.coefficient in
    let ds = decimal (size / 10 ^ d.scale) in
    let fs = last_digits d.scale size in
    let body = ds ++ fraction_text d.scale size in
    let text = sign_text d.coefficient ++ body in
    let writes = decimal_writes (size / 10 ^ d.scale) (small size (10 ^ d.scale) is.coefficient_fits) in
    let parts = parts_of d.scale size ds writes.digits in
    let sides = signs d.coefficient body (begins ds (fraction_text d.scale size) writes.digits writes.some) in
    let read : read_decimal text ≡ Value d =
    ap (λ negative. reading_of_parts negative (before_point (without_sign text)) (behind_point (without_sign text))) sides.sign
    ∙ ap (λ xs. reading_of_parts (is_below_zero d.coefficient) (before_point xs) (behind_point xs)) sides.rest
    ∙ ap (λ xs. reading_of_parts (is_below_zero d.coefficient) xs (behind_point body)) parts.before
    ∙ ap (λ xs. reading_of_parts (is_below_zero d.coefficient) ds xs) parts.behind
    ∙ parts_read d ds is writes in
    ap (λ r. value_in (Some (reading_map number.Decimal r))) read
  where
    small : (size unit : ℕ) → size ≤ largest → size / unit < 2 ^ 64
    small size unit fits = let less = div-le_self size unit in omega arith

-- a term made of a number reads as it
pub made_reads : {E : Type 0} (made : Result Term E) (written given : Number) → given ≡ written
    → number_of (numeral_literal written) ≡ Some written → IfOk made (λ term. term ≡ numeral_literal written)
    → IfOk made (λ term. number_of term ≡ Some given)
made_reads (Ok term) written given same back is = ap number_of is ∙ back ∙ ap Some (sym same)
made_reads (Err e) written given same back is = is
