-- The longest front that an automaton accepts, in bytes, as a pass over the characters of a text finds it.
use Rattle.std.proofs.Common.{◌≡◌, ℕ, zero, suc, ◌+◌, ◌<◌, ◌≤◌, Bool, true, false, List, [], ◌∷◌, ◌++◌, length, take, refl, ap, ◌∙◌, arith, if◌then◌else◌, Some, None, IsUtf8, chars, length-append}
use Rattle.std.specs.Prelude.{◌==◌}
use Rattle.std.specs.Char.{encode_utf8, len_utf8}
use Rattle.std.specs.Str.{encode_utf8_all}
use Rattle.std.proofs.lemmas.Bool.Decides.{nat_tests}
use Rattle.std.proofs.lemmas.List.{nil_from_length}
use Rattle.std.proofs.lemmas.Str.{chars-nil, chars_past_char, length-encode, len_utf8_bounds}
use Rattle.rsp_scan.specs.Fronts.{longest_front}
use Rattle.rsp_scan.specs.Machines.{Machine, accepts}
use Rattle.rsp_scan.specs.Scans.{lengthened, scan, scanned_bytes}
use Rattle.rsp_scan.proofs.Longest.{longest_scanned, scan_is}
use Rattle.rsp_scan.proofs.Best.{best}

abbrev pub bytes : ℕ → List ℕ → ℕ
bytes n cs = length (encode_utf8_all (take n cs))

pub first_bytes : (n c : ℕ) (cs : List ℕ) → bytes (suc n) (c ∷ cs) ≡ len_utf8 c + bytes n cs
first_bytes n c cs = length-append (encode_utf8 c) (encode_utf8_all (take n cs)) ∙ ap (λ k. k + bytes n cs) (length-encode c)

pub some_bytes : (n c : ℕ) (cs : List ℕ) → 0 < bytes (suc n) (c ∷ cs)
some_bytes n c cs = let is = first_bytes n c cs in let some = (len_utf8_bounds c).0 in omega arith

not_zero : (n : ℕ) → 0 < n → (n == 0) ≡ false
not_zero n some = grind (arith, nat_tests)

pub best_bytes : (ends : Bool) (n c : ℕ) (cs : List ℕ) (end read : ℕ) → n ≤ length cs
    → best end read (bytes (lengthened ends n) (c ∷ cs)) ≡ best (if ends then read + len_utf8 c else end) (read + len_utf8 c) (bytes n cs)
best_bytes true zero c cs end read within =
    let test = not_zero (bytes 1 (c ∷ cs)) (some_bytes 0 c cs) in
    let all = first_bytes 0 c cs in
    rw test (omega arith)
best_bytes false zero c cs end read within = refl
best_bytes ends (suc n) c [] end read within = absurd (omega arith)
best_bytes ends (suc n) c (d ∷ ds) end read within =
    let zero_not : (suc n == 0) ≡ false = not_zero (suc n) (omega arith) in
    let more = not_zero (bytes (suc n) (d ∷ ds)) (some_bytes n d ds) in
    let most = not_zero (bytes (suc (suc n)) (c ∷ d ∷ ds)) (some_bytes (suc n) c (d ∷ ds)) in
    let all = first_bytes (suc n) c (d ∷ ds) in
    rw (zero_not, more, most) (omega arith)

module _ {S : Type 0} (m : Machine S) (s : S) where
  step_none : (c : ℕ) (cs : List ℕ) → m.step s c ≡ None → scan m s (c ∷ cs) ≡ 0
  unfolding scan
  step_none c cs is = rw is refl

  step_some : (t : S) (c : ℕ) (cs : List ℕ) → m.step s c ≡ Some t → scan m s (c ∷ cs) ≡ lengthened (m.ends t) (scan m t cs)
  unfolding scan
  step_some t c cs is = rw is refl

  no_items : scanned_bytes m s [] ≡ 0
  unfolding scan
  no_items = refl

  pub bytes_read : (text : List ℕ) (end read : ℕ) → length text ≡ 0 → best end read (scanned_bytes m s (chars text)) ≡ end
  bytes_read text end read none = rw (nil_from_length text none, chars-nil, no_items) refl

  -- the longest front that the automaton accepts, as a test
  pub bytes_of_front : (text : List ℕ) → length (encode_utf8_all (longest_front (accepts m s) (chars text))) ≡ scanned_bytes m s (chars text)
  bytes_of_front text = ap (λ xs. length (encode_utf8_all xs)) (longest_scanned m s (accepts m s) (chars text) (λ ys. refl))

module _ {S : Type 0} (m : Machine S) (s : S) (text rest : List ℕ) (c : ℕ) (whole : IsUtf8 text) (parts : text ≡ encode_utf8 c ++ rest) (end read : ℕ) where
  pub bytes_go : (t : S) → m.step s c ≡ Some t
      → best end read (scanned_bytes m s (chars text)) ≡ best (if m.ends t then read + len_utf8 c else end) (read + len_utf8 c) (scanned_bytes m t (chars rest))
  bytes_go t is =
      rw (chars_past_char text rest c whole parts, step_some m s t c (chars rest) is)
      (best_bytes (m.ends t) (scan m t (chars rest)) c (chars rest) end read (scan_is m t (chars rest)).within)

  pub bytes_stop : m.step s c ≡ None → best end read (scanned_bytes m s (chars text)) ≡ end
  bytes_stop is = rw (chars_past_char text rest c whole parts, step_none m s c (chars rest) is) refl

pub end_within : (ends : Bool) (read end len : ℕ) → end ≤ read → (if ends then read + len else end) ≤ read + len
end_within true read end len within = omega arith
end_within false read end len within = omega arith
