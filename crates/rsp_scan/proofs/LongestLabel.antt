-- Labels of blank nodes: the machine answers whether characters are one, and the pass finds the longest, in bytes.
use Rattle.std.proofs.Common.{◌≡◌, ℕ, suc, ◌+◌, ◌≤◌, Bool, true, false, true≢false, List, [], ◌∷◌, ◌++◌, length, take, refl, sym, ap, ◌∙◌, if◌then◌else◌, Some, None, IsUtf8, chars}
use Rattle.std.specs.Prelude.{◌&&◌, ◌==◌, not}
use Rattle.std.specs.Char.{encode_utf8, len_utf8}
use Rattle.std.specs.List.{list_all}
use Rattle.std.specs.Str.{encode_utf8_all}
use Rattle.std.proofs.lemmas.List.{nil_from_length}
use Rattle.std.proofs.lemmas.Str.{chars-nil, chars_past_char}
use Rattle.rsp_spec.proofs.Truths.{differs}
use Rattle.rsp_terms.specs.Characters.{last_of, is_label_start, is_label_character, is_label_text}
use Rattle.rsp_scan.specs.Fronts.{longest_front}
use Rattle.rsp_scan.specs.Machines.{accepts}
use Rattle.rsp_scan.specs.Scans.{lengthened, scan, further_bytes, label_machine}
use Rattle.rsp_scan.proofs.Longest.{longest_scanned, scan_is}
use Rattle.rsp_scan.proofs.Best.{best}
use Rattle.rsp_scan.proofs.ScannedBytes.{first_bytes, best_bytes}

behind_first : (last : ℕ) (cs : List ℕ)
    → accepts label_machine (Some last) cs ≡ (list_all is_label_character cs && not (last_of last cs == 0x2E))
behind_first last [] = refl
behind_first last (c ∷ cs) = by (is_label_character c) refl (behind_first c cs)
  where
    by : (b : Bool) → is_label_character c ≡ b → accepts label_machine (Some c) cs ≡ (list_all is_label_character cs && not (last_of c cs == 0x2E))
        → accepts label_machine (Some last) (c ∷ cs) ≡ (list_all is_label_character (c ∷ cs) && not (last_of last (c ∷ cs) == 0x2E))
    by true is more = rw is more
    by false is more = rw is refl

label_is : (cs : List ℕ) → is_label_text cs ≡ accepts label_machine None cs
label_is [] = refl
label_is (c ∷ cs) = by (is_label_start c) refl
  where
    by : (b : Bool) → is_label_start c ≡ b → is_label_text (c ∷ cs) ≡ accepts label_machine None (c ∷ cs)
    by true is = rw is (sym (behind_first c cs))
    by false is = rw is refl

pub longest_label_is : (cs : List ℕ) → longest_front is_label_text cs ≡ take (scan label_machine None cs) cs
longest_label_is cs = longest_scanned label_machine None is_label_text cs label_is

same_scan : (a b : ℕ) (cs : List ℕ) → scan label_machine (Some a) cs ≡ scan label_machine (Some b) cs
unfolding scan
same_scan a b [] = refl
same_scan a b (c ∷ cs) = refl

-- ---- in bytes

scanned : (c : ℕ) (cs : List ℕ) → is_label_character c ≡ true
    → scan label_machine (Some 0) (c ∷ cs) ≡ lengthened (not (c == 0x2E)) (scan label_machine (Some 0) cs)
unfolding scan
scanned c cs is = rw is (ap (λ n. lengthened (not (c == 0x2E)) n) (same_scan c 0 cs))

unscanned : (c : ℕ) (cs : List ℕ) → is_label_character c ≡ false → scan label_machine (Some 0) (c ∷ cs) ≡ 0
unfolding scan
unscanned c cs is = rw is refl

within_scan : (cs : List ℕ) → scan label_machine (Some 0) cs ≤ length cs
within_scan cs = (scan_is label_machine (Some 0) cs).within

none_read : further_bytes [] ≡ 0
unfolding scan
none_read = refl

module _ (text rest : List ℕ) (c : ℕ) (whole : IsUtf8 text) (parts : text ≡ encode_utf8 c ++ rest) (end read : ℕ) where
  pub label_goes : is_label_character c ≡ true
      → best end read (further_bytes (chars text)) ≡ best (if not (c == 0x2E) then read + len_utf8 c else end) (read + len_utf8 c) (further_bytes (chars rest))
  label_goes is =
      rw (chars_past_char text rest c whole parts, scanned c (chars rest) is)
      (best_bytes (not (c == 0x2E)) (scan label_machine (Some 0) (chars rest)) c (chars rest) end read (within_scan (chars rest)))

  pub label_stops : is_label_character c ≡ false → best end read (further_bytes (chars text)) ≡ end
  label_stops is = rw (chars_past_char text rest c whole parts, unscanned c (chars rest) is) refl

pub label_read : (text : List ℕ) (end read : ℕ) → length text ≡ 0 → best end read (further_bytes (chars text)) ≡ end
label_read text end read none = rw (nil_from_length text none, chars-nil, none_read) refl

-- ---- the first character

dot_begins_none : is_label_start 0x2E ≡ false
dot_begins_none = refl

may_end : (c : ℕ) → is_label_start c ≡ true → not (c == 0x2E) ≡ true
may_end c start = ap not (differs c 0x2E (λ dot. true≢false (sym start ∙ (ap is_label_start dot ∙ dot_begins_none))))

lengthened_by : (b : Bool) (n : ℕ) → (if b && not true then 0 else suc n) ≡ suc n
lengthened_by true n = refl
lengthened_by false n = refl

pub label_begun : (c : ℕ) (cs : List ℕ) → is_label_start c ≡ true
    → length (encode_utf8_all (longest_front is_label_text (c ∷ cs))) ≡ len_utf8 c + further_bytes cs
unfolding scan
label_begun c cs start =
    ap (λ xs. length (encode_utf8_all xs)) (longest_label_is (c ∷ cs))
    ∙ rw (start, may_end c start, same_scan c 0 cs, lengthened_by (scan label_machine (Some 0) cs == 0) (scan label_machine (Some 0) cs)) (first_bytes (scan label_machine (Some 0) cs) c cs)

pub no_label : (c : ℕ) (cs : List ℕ) → is_label_start c ≡ false → length (encode_utf8_all (longest_front is_label_text (c ∷ cs))) ≡ 0
unfolding scan
no_label c cs fails = ap (λ xs. length (encode_utf8_all xs)) (longest_label_is (c ∷ cs)) ∙ rw fails refl

pub no_characters : (text : List ℕ) → length text ≡ 0 → length (encode_utf8_all (longest_front is_label_text (chars text))) ≡ 0
no_characters text none = rw (nil_from_length text none, chars-nil) refl

abbrev pub bytes_at : List ℕ → ℕ
bytes_at cs = length (encode_utf8_all (longest_front is_label_text cs))

module _ (text rest : List ℕ) (c : ℕ) (whole : IsUtf8 text) (parts : text ≡ encode_utf8 c ++ rest) where
  pub label_begun_at : is_label_start c ≡ true → bytes_at (chars text) ≡ len_utf8 c + further_bytes (chars rest)
  label_begun_at start = ap bytes_at (chars_past_char text rest c whole parts) ∙ label_begun c (chars rest) start

  pub no_label_at : is_label_start c ≡ false → bytes_at (chars text) ≡ 0
  no_label_at fails = ap bytes_at (chars_past_char text rest c whole parts) ∙ no_label c (chars rest) fails
