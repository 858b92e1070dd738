-- Texts read character by character.
use Rattle.std.proofs.Common.{◌≡◌, ◌≢◌, ℕ, ◌==◌, ◌<◌, Bool, true, false, not, ◌&&◌, List, [], ◌∷◌, ◌++◌, length, get_or, IsUtf8, chars, refl, sym, ap, ◌∙◌}
use Rattle.std.proofs.lemmas.Str.{chars-nil, chars_past_char}
use Rattle.std.proofs.lemmas.List.{nil_from_length}
use Rattle.std.specs.Char.{encode_utf8, is_ascii_alphabetic, is_ascii_alphanumeric}
use Rattle.std.proofs.lemmas.Grind.{get_or_default_zero}
use Rattle.std.specs.List.{list_all, slice_split, All}
use Rattle.std.proofs.lemmas.List.Splits.{slice_split_none, slice_split_at}
use Rattle.rsp_spec.proofs.Truths.{differs}
use Rattle.rsp_terms.specs.Characters.{is_label_start, is_label_character, is_label_text, last_of, is_run_of, are_subtags, is_tag_text}

pub chars_of_empty : (bytes : List ℕ) → length bytes ≡ 0 → chars bytes ≡ []
chars_of_empty bytes none = ap chars (nil_from_length bytes none) ∙ chars-nil

-- what is left of a label, where this character stands last before it
abbrev pub ends_label : ℕ → List ℕ → Bool
ends_label last others = list_all is_label_character others && not (last_of last others == 0x2E)

module _ (text rest : List ℕ) (c : ℕ) (whole : IsUtf8 text) (parts : text ≡ encode_utf8 c ++ rest) where
  step : chars text ≡ c ∷ chars rest
  step = chars_past_char text rest c whole parts

  pub label_later : (last : ℕ) → is_label_character c ≡ true → ends_label last (chars text) ≡ ends_label c (chars rest)
  label_later last passes = rw (step, passes)

  pub label_broken : (last : ℕ) → is_label_character c ≡ false → ends_label last (chars text) ≡ false
  label_broken last fails = rw (step, fails)

  pub label_begun : is_label_start c ≡ true → is_label_text (chars text) ≡ ends_label c (chars rest)
  label_begun begins = rw (step, begins)

  pub no_label : is_label_start c ≡ false → is_label_text (chars text) ≡ false
  no_label fails = rw (step, fails)

abbrev is_hyphen : ℕ → Bool
is_hyphen c = c == 0x2D

without_hyphens : (text : List ℕ) → ((i : ℕ) → i < length text → get_or text i 0 ≢ 0x2D) → All (λ c. is_hyphen c ≡ false) text
without_hyphens text none = λ k d within. differs _ _ (λ is. none k within (sym (get_or_default_zero text k d within) ∙ is))

pub uncut : (text : List ℕ) → ((i : ℕ) → i < length text → get_or text i 0 ≢ 0x2D) → slice_split is_hyphen text ≡ text ∷ []
uncut text none = slice_split_none is_hyphen text (without_hyphens text none)

pub cut : (text first others : List ℕ) → text ≡ first ++ (0x2D ∷ others) → ((i : ℕ) → i < length first → get_or first i 0 ≢ 0x2D)
    → slice_split is_hyphen text ≡ first ∷ slice_split is_hyphen others
cut text first others parts none =
    ap (slice_split is_hyphen) parts ∙ slice_split_at is_hyphen first 0x2D others (without_hyphens first none) refl

pub one_or_more : (test : ℕ → Bool) (text : List ℕ) → length text ≢ 0 → is_run_of test text ≡ list_all test text
one_or_more test text some = ap (λ b. not b && list_all test text) (differs (length text) 0 some)

by_true : (a b : Bool) → b ≡ true → (a && b) ≡ a
by_true true b is = is
by_true false b is = refl

pub only_letters : (text : List ℕ) → ((i : ℕ) → i < length text → get_or text i 0 ≢ 0x2D)
    → is_tag_text text ≡ is_run_of is_ascii_alphabetic text
only_letters text none = ap are_subtags (uncut text none) ∙ by_true _ true refl

module _ (text first others : List ℕ) (parts : text ≡ first ++ (0x2D ∷ others)) (none : (i : ℕ) → i < length first → get_or first i 0 ≢ 0x2D) where
  subtags : is_tag_text text ≡ (is_run_of is_ascii_alphabetic first && list_all (is_run_of is_ascii_alphanumeric) (slice_split is_hyphen others))
  subtags = ap are_subtags (cut text first others parts none)

  pub further_subtags : is_run_of is_ascii_alphabetic first ≡ true
      → is_tag_text text ≡ list_all (is_run_of is_ascii_alphanumeric) (slice_split is_hyphen others)
  further_subtags letters = subtags ∙ ap (λ b. b && list_all (is_run_of is_ascii_alphanumeric) (slice_split is_hyphen others)) letters

  pub no_letters : is_run_of is_ascii_alphabetic first ≡ false → is_tag_text text ≡ false
  no_letters fails = subtags ∙ ap (λ b. b && list_all (is_run_of is_ascii_alphanumeric) (slice_split is_hyphen others)) fails
