-- Language tags: the machine answers whether a text is one, and the pass finds the longest.
use Rattle.std.proofs.Common.{◌≡◌, ℕ, suc, ◌<◌, Bool, true, false, cond, List, [], ◌∷◌, length, take, refl, sym, ◌∙◌, arith}
use Rattle.std.specs.Prelude.{◌&&◌, ◌||◌, ◌==◌, not}
use Rattle.std.specs.Char.{is_ascii_alphabetic, is_ascii_alphanumeric, is_ascii_digit, is_ascii_uppercase, is_ascii_lowercase}
use Rattle.std.specs.List.{list_all, slice_split, onto_first}
use Rattle.std.proofs.lemmas.Bool.Decides.{nat_tests}
use Rattle.rsp_terms.specs.Characters.{is_run_of, are_subtags, is_tag_text}
use Rattle.rsp_scan.specs.Fronts.{longest_front}
use Rattle.rsp_scan.specs.Machines.{accepts}
use Rattle.rsp_scan.specs.Scans.{scan, tag_machine}
use Rattle.rsp_scan.proofs.Longest.{longest_scanned}

abbrev kind_of : Bool → ℕ → Bool
kind_of true c = is_ascii_alphabetic c
kind_of false c = is_ascii_alphanumeric c

abbrev is_hyphen : ℕ → Bool
is_hyphen c = c == 0x2D

-- the parts of a text whose first one has begun, where `begun` says so
abbrev are_parts : Bool → Bool → List (List ℕ) → Bool
are_parts first begun [] = false
are_parts first begun (part ∷ parts) =
    ((begun || not (length part == 0)) && list_all (kind_of first) part) && list_all (is_run_of is_ascii_alphanumeric) parts

some_onto : (c : ℕ) (parts : List (List ℕ)) → 0 < length (onto_first c parts)
some_onto c [] = omega arith
some_onto c (part ∷ parts) = omega arith

split_some : (p : ℕ → Bool) (cs : List ℕ) → 0 < length (slice_split p cs)
split_some p [] = omega arith
split_some p (c ∷ cs) = by (p c)
  where
    by : (b : Bool) → 0 < length (cond b ([] ∷ slice_split p cs) (onto_first c (slice_split p cs)))
    by true = omega arith
    by false = some_onto c (slice_split p cs)

further_parts : (parts : List (List ℕ)) → 0 < length parts → are_parts false false parts ≡ list_all (is_run_of is_ascii_alphanumeric) parts
further_parts [] some = absurd (omega arith)
further_parts (part ∷ parts) some = refl

reordered : (u l d : Bool) → ((u || l) || d) ≡ ((d || u) || l)
reordered true l true = refl
reordered true l false = refl
reordered false true true = refl
reordered false true false = refl
reordered false false true = refl
reordered false false false = refl

or_false : (b : Bool) → (b || false) ≡ b
or_false true = refl
or_false false = refl

kind_is : (first : Bool) (c : ℕ) → (is_ascii_alphabetic c || (not first && is_ascii_digit c)) ≡ kind_of first c
kind_is true c = or_false (is_ascii_alphabetic c)
kind_is false c = reordered (is_ascii_uppercase c) (is_ascii_lowercase c) (is_ascii_digit c)

and_onto : (a b d : Bool) → ((a && b) && d) ≡ (a && (b && d))
and_onto true b d = refl
and_onto false b d = refl

begins_by : (begun : Bool) (n : ℕ) → (begun || not (suc n == 0)) ≡ true
begins_by true n = refl
begins_by false n = let test : (suc n == 0) ≡ false = grind (arith, nat_tests) in rw test refl

onto_parts : (first begun : Bool) (c : ℕ) (parts : List (List ℕ)) → 0 < length parts
    → are_parts first begun (onto_first c parts) ≡ (kind_of first c && are_parts first true parts)
onto_parts first begun c [] some = absurd (omega arith)
onto_parts first begun c (part ∷ parts) some =
    let begins : (begun || not (length (c ∷ part) == 0)) ≡ true = begins_by begun (length part) in
    rw begins (and_onto (kind_of first c) (list_all (kind_of first) part) (list_all (is_run_of is_ascii_alphanumeric) parts))

abbrev Answers : List ℕ → Type 0
Answers cs = (first begun : Bool) → accepts tag_machine (first, begun) cs ≡ are_parts first begun (slice_split is_hyphen cs)

at_hyphen : (first begun : Bool) (c : ℕ) (cs : List ℕ) → c ≡ 0x2D → Answers cs
    → accepts tag_machine (first, begun) (c ∷ cs) ≡ are_parts first begun (slice_split is_hyphen (c ∷ cs))
at_hyphen first true c cs is more =
    rw is (more false false ∙ further_parts (slice_split is_hyphen cs) (split_some is_hyphen cs))
at_hyphen true false c cs is more = rw is refl
at_hyphen false false c cs is more = rw is refl

in_part : (first begun kind : Bool) (c : ℕ) (cs : List ℕ) → (c == 0x2D) ≡ false → kind_of first c ≡ kind → Answers cs
    → accepts tag_machine (first, begun) (c ∷ cs) ≡ are_parts first begun (slice_split is_hyphen (c ∷ cs))
in_part first begun true c cs other is more =
    rw (other, kind_is first c, is) (more first true ∙ sym (onto_parts first begun c (slice_split is_hyphen cs) (split_some is_hyphen cs) ∙ rw is refl))
in_part first begun false c cs other is more =
    rw (other, kind_is first c, is) (sym (onto_parts first begun c (slice_split is_hyphen cs) (split_some is_hyphen cs) ∙ rw is refl))

tag_step : (first begun hyphen : Bool) (c : ℕ) (cs : List ℕ) → (c == 0x2D) ≡ hyphen → Answers cs
    → accepts tag_machine (first, begun) (c ∷ cs) ≡ are_parts first begun (slice_split is_hyphen (c ∷ cs))
tag_step first begun true c cs is more = at_hyphen first begun c cs (grind (arith, nat_tests)) more
tag_step first begun false c cs is more = in_part first begun (kind_of first c) c cs is refl more

answers : (cs : List ℕ) → Answers cs
answers [] first true = refl
answers [] first false = refl
answers (c ∷ cs) first begun = tag_step first begun (c == 0x2D) c cs refl (answers cs)

is_tag : (parts : List (List ℕ)) → 0 < length parts → are_subtags parts ≡ are_parts true false parts
is_tag [] some = absurd (omega arith)
is_tag (part ∷ parts) some = refl

pub tag_is : (cs : List ℕ) → is_tag_text cs ≡ accepts tag_machine (true, false) cs
tag_is cs = is_tag (slice_split is_hyphen cs) (split_some is_hyphen cs) ∙ sym (answers cs true false)

pub longest_tag : (text : List ℕ) → longest_front is_tag_text text ≡ take (scan tag_machine (true, false) text) text
longest_tag text =
    longest_scanned tag_machine (true, false) is_tag_text text
    tag_is
