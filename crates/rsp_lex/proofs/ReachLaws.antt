-- Where a run of name characters holds no prefixed name, none begins later in the run either.
use Rattle.std.proofs.Common.{◌≡◌, ℕ, zero, suc, ◌+◌, ◌-◌, ◌<◌, ◌≤◌, Bool, true, false, true≢false, List, [], ◌∷◌, ◌++◌, length, take, drop, refl, sym, ap, subst, ◌∙◌, arith, append_assoc, length-append, Option, Some, None, if◌then◌else◌, IsUtf8, chars}
use Rattle.std.specs.Prelude.{◌==◌, ◌&&◌, ◌⊎◌, not, nat_lt}
use mathlib.Core.Logic.{inl, inr}
use Rattle.std.specs.Char.{encode_utf8, len_utf8}
use Rattle.std.specs.Str.{all_scalars, encode_utf8_all}
use Rattle.std.proofs.lemmas.Bool.Decides.{nat_tests}
use Rattle.std.proofs.lemmas.List.{nil_from_length, take-append-drop}
use Rattle.std.proofs.lemmas.Str.{chars-nil, chars_past_char, chars-encodes, IsUtf8-append, length-encode}
use Rattle.rsp_terms.specs.Characters.{is_base}
use Rattle.rsp_scan.specs.Machines.{Machine}
use Rattle.rsp_scan.specs.Scans.{lengthened, scan, scanned_bytes}
use Rattle.rsp_scan.proofs.ScannedBytes.{bytes, first_bytes, some_bytes}
use Rattle.rsp_scan.proofs.Fronts.{drop_front, scalars-drop}
use Rattle.rsp_scan.proofs.Longest.{scan_is}
use Rattle.rsp_scan.proofs.NameLaws.{begins}
use Rattle.rsp_scan.proofs.RuleLaws.{length_take}
use Rattle.rsp_lex.specs.declared.token.TokenKind.TheVariants as kind
use Rattle.rsp_lex.specs.declared.machine.State.{State}
use Rattle.rsp_lex.specs.declared.machine.State.TheVariants as state
use Rattle.rsp_lex.specs.declared.names.PrefixedState.{PrefixedState}
use Rattle.rsp_lex.specs.declared.names.PrefixedState.TheVariants as prefixed
use Rattle.rsp_lex.specs.Names.{prefix_inside, prefixed_step}
use Rattle.rsp_lex.specs.Forms.{continues_name, front_bytes}
use Rattle.rsp_lex.specs.Kinds.{token_machine}
use Rattle.rsp_lex.proofs.KindLaws.{front_is}
use Rattle.rsp_lex.specs.Reach.{reach, read_bytes, NoPrefixed}

-- ---- how far a text is read, in bytes

module _ {S : Type 0} (m : Machine S) (s : S) where
  reach_none : (c : ℕ) (cs : List ℕ) → m.step s c ≡ None → reach m s (c ∷ cs) ≡ 0
  unfolding reach
  reach_none c cs is = rw is refl

  reach_some : (t : S) (c : ℕ) (cs : List ℕ) → m.step s c ≡ Some t → reach m s (c ∷ cs) ≡ suc (reach m t cs)
  unfolding reach
  reach_some t c cs is = rw is refl

  reach_nil : read_bytes m s [] ≡ 0
  unfolding reach
  reach_nil = refl

  pub read_none : (text : List ℕ) → length text ≡ 0 → read_bytes m s (chars text) ≡ 0
  read_none text none = rw (nil_from_length text none, chars-nil, reach_nil) refl

module _ {S : Type 0} (m : Machine S) (s : S) (text rest : List ℕ) (c : ℕ) (whole : IsUtf8 text) (parts : text ≡ encode_utf8 c ++ rest) where
  pub read_goes : (t : S) → m.step s c ≡ Some t → read_bytes m s (chars text) ≡ len_utf8 c + read_bytes m t (chars rest)
  read_goes t is =
      rw (chars_past_char text rest c whole parts, reach_some m s t c (chars rest) is) (first_bytes (reach m t (chars rest)) c (chars rest))

  pub read_stops : m.step s c ≡ None → read_bytes m s (chars text) ≡ 0
  read_stops is = rw (chars_past_char text rest c whole parts, reach_none m s c (chars rest) is) refl

-- ---- a run without a prefixed name

abbrev at : PrefixedState → State
at s = state.Prefixed s

abbrev found : PrefixedState → List ℕ → ℕ
found s cs = scan token_machine (at s) cs

-- within a prefix, of which the character read last alone is known
data Within (s : PrefixedState) : Type 0 where
  plain : s ≡ prefixed.Prefix → Within s
  dot : s ≡ prefixed.PrefixDot → Within s

found_none : (s : PrefixedState) (c : ℕ) (cs : List ℕ) → prefixed_step s c ≡ None → found s (c ∷ cs) ≡ 0
unfolding scan
found_none s c cs is = rw is refl

found_some : (s t : PrefixedState) (c : ℕ) (cs : List ℕ) → prefixed_step s c ≡ Some t
    → found s (c ∷ cs) ≡ lengthened (token_machine.ends (at t)) (found t cs)
unfolding scan
found_some s t c cs is = rw is refl

zero_is : (n : ℕ) → (n == 0) ≡ true → n ≡ 0
zero_is n h = grind (arith, nat_tests)

is_zero : (n : ℕ) → n ≡ 0 → (n == 0) ≡ true
is_zero n h = grind (arith, nat_tests)

shorter : (n : ℕ) → lengthened false n ≡ 0 → n ≡ 0
shorter n is = by (n == 0) refl is
  where
    by : (b : Bool) → (n == 0) ≡ b → (if b && not false then 0 else suc n) ≡ 0 → n ≡ 0
    by true h is = zero_is n h
    by false h is = absurd (omega arith)

none_longer : (n : ℕ) → n ≡ 0 → lengthened false n ≡ 0
none_longer n is = rw (is_zero n is) refl

some_longer : (n : ℕ) → ¬ (lengthened true n ≡ 0)
some_longer n is = by (n == 0) is
  where
    by : (b : Bool) → (if b && not true then 0 else suc n) ≡ 0 → ⊥
    by true is = omega arith
    by false is = omega arith

not_ending : (t : PrefixedState) → Within t → token_machine.ends (at t) ≡ false
not_ending t (plain is) = ap (λ s. token_machine.ends (at s)) is
not_ending t (dot is) = ap (λ s. token_machine.ends (at s)) is

-- the character that stands here, and the state behind it
record Inside (s : PrefixedState) (c : ℕ) (t : PrefixedState) : Type 0 where
  within : Within t
  no_colon : (c == 58) ≡ false
  plain_where_base : is_base c ≡ true → t ≡ prefixed.Prefix

dot_is_no_base : is_base 46 ≡ false
dot_is_no_base = refl

equal_to : (c d : ℕ) → (c == d) ≡ true → c ≡ d
equal_to c d h = grind (arith, nat_tests)

colon_no_dot : (c : ℕ) → (c == 46) ≡ true → (c == 58) ≡ false
colon_no_dot c h = grind (arith, nat_tests)

some_state : (a b : PrefixedState) → Some a ≡ Some b → a ≡ b
some_state a b h = cc

-- behind a character that isn't `:`
inside_by : (s t : PrefixedState) (c : ℕ) (colon : Bool) → (c == 58) ≡ colon → prefix_inside c ≡ Some t → Inside s c t
inside_by s t c colon hc is = by (c == 46) refl (continues_name c) refl colon hc is
  where
    by : (b : Bool) → (c == 46) ≡ b → (n : Bool) → continues_name c ≡ n → (colon : Bool) → (c == 58) ≡ colon
        → (if b then Some prefixed.PrefixDot else (if n then Some prefixed.Prefix else None)) ≡ Some t → Inside s c t
    by true hb n hn colon hc is = record {
      within = dot (sym (some_state prefixed.PrefixDot t is));
      no_colon = colon_no_dot c hb;
      plain_where_base = λ base. absurd (true≢false (sym base ∙ (ap is_base (equal_to c 46 hb) ∙ dot_is_no_base)));
    }
    by false hb true hn true hc is =
        absurd (true≢false (sym hn ∙ ap continues_name (equal_to c 58 hc)))
    by false hb true hn false hc is = record {
      within = plain (sym (some_state prefixed.Prefix t is));
      no_colon = hc;
      plain_where_base = λ base. sym (some_state prefixed.Prefix t is);
    }
    by false hb false hn colon hc is = absurd (cc)

-- what follows in the run: a state within the prefix, or the colon
step_within : (s : PrefixedState) → Within s → (c : ℕ) (t : PrefixedState) → prefixed_step s c ≡ Some t → (t ≡ prefixed.Colon) ⊎ Inside s c t
step_within s (dot here) c t is =
    inr (inside_by s t c (c == 58) refl (ap (λ u. prefixed_step u c) (sym here) ∙ is))
step_within s (plain here) c t is = by (c == 58) refl (ap (λ u. prefixed_step u c) (sym here) ∙ is)
  where
    by : (b : Bool) → (c == 58) ≡ b → (if b then Some prefixed.Colon else prefix_inside c) ≡ Some t → (t ≡ prefixed.Colon) ⊎ Inside s c t
    by true hc is = inl (sym (some_state prefixed.Colon t is))
    by false hc is = inr (inside_by s t c false hc is)

-- none begins at a character within the run
none_here : (s t : PrefixedState) (c : ℕ) (cs : List ℕ) → Inside s c t → found t cs ≡ 0 → found prefixed.Start (c ∷ cs) ≡ 0
none_here s t c cs i none = by (is_base c) refl
  where
    start_is : (b : Bool) → is_base c ≡ b → prefixed_step prefixed.Start c ≡ (if b then Some prefixed.Prefix else None)
    start_is b hb = rw (i.no_colon, hb) refl

    by : (b : Bool) → is_base c ≡ b → found prefixed.Start (c ∷ cs) ≡ 0
    by true hb =
        found_some prefixed.Start prefixed.Prefix c cs (start_is true hb)
        ∙ none_longer (found prefixed.Prefix cs) (ap (λ u. found u cs) (sym (i.plain_where_base hb)) ∙ none)
    by false hb = found_none prefixed.Start c cs (start_is false hb)

-- nor at any of the run
none_in_run : (s : PrefixedState) → Within s → (cs : List ℕ) → found s cs ≡ 0 → (j : ℕ) → j < reach token_machine (at s) cs
    → found prefixed.Start (drop j cs) ≡ 0
unfolding reach
none_in_run s w [] none j less = absurd (omega arith)
none_in_run s w (c ∷ cs) none j less = by (prefixed_step s c) refl (λ t u. none_in_run t u cs)
  where
    goes : (t : PrefixedState) → prefixed_step s c ≡ Some t → Inside s c t
        → ((u : PrefixedState) → Within u → found u cs ≡ 0 → (i : ℕ) → i < reach token_machine (at u) cs → found prefixed.Start (drop i cs) ≡ 0)
        → (k : ℕ) → k < reach token_machine (at s) (c ∷ cs) → found prefixed.Start (drop k (c ∷ cs)) ≡ 0
    goes t step i more k within =
        let rest : found t cs ≡ 0
        = shorter (found t cs) (sym (ap (λ b. lengthened b (found t cs)) (not_ending t i.within)) ∙ (sym (found_some s t c cs step) ∙ none)) in
        let far = reach_some token_machine (at s) (at t) c cs (rw step refl) in
        by_place k within rest far
      where
        by_place : (k : ℕ) → k < reach token_machine (at s) (c ∷ cs) → found t cs ≡ 0
            → reach token_machine (at s) (c ∷ cs) ≡ suc (reach token_machine (at t) cs) → found prefixed.Start (drop k (c ∷ cs)) ≡ 0
        by_place zero within rest far = none_here s t c cs i rest
        by_place (suc k) within rest far = more t i.within rest k (omega arith)

    by : (o : Option PrefixedState) → prefixed_step s c ≡ o
        → ((u : PrefixedState) → Within u → found u cs ≡ 0 → (i : ℕ) → i < reach token_machine (at u) cs → found prefixed.Start (drop i cs) ≡ 0)
        → found prefixed.Start (drop j (c ∷ cs)) ≡ 0
    by None step more = absurd (let far = reach_none token_machine (at s) c cs (rw step refl) in omega arith)
    by (Some t) step more = by_kind (step_within s w c t step)
      where
        by_kind : (t ≡ prefixed.Colon) ⊎ Inside s c t → found prefixed.Start (drop j (c ∷ cs)) ≡ 0
        by_kind (inl colon) =
            absurd (some_longer (found t cs) (sym (ap (λ u. lengthened (token_machine.ends (at u)) (found t cs)) colon)
            ∙ (sym (found_some s t c cs step) ∙ none)))
        by_kind (inr i) = goes t step i more j less

none_from_start : (cs : List ℕ) → found prefixed.Start cs ≡ 0 → (j : ℕ) → j < reach token_machine (at prefixed.Start) cs
    → found prefixed.Start (drop j cs) ≡ 0
unfolding reach
none_from_start [] none j less = absurd (omega arith)
none_from_start (c ∷ cs) none zero less = none
none_from_start (c ∷ cs) none (suc j) less = by (c == 58) refl (is_base c) refl
  where
    step_is : (b d : Bool) → (c == 58) ≡ b → is_base c ≡ d
        → prefixed_step prefixed.Start c ≡ (if b then Some prefixed.Colon else (if d then Some prefixed.Prefix else None))
    step_is b d hb hd = rw (hb, hd) refl

    by : (b : Bool) → (c == 58) ≡ b → (d : Bool) → is_base c ≡ d → found prefixed.Start (drop j cs) ≡ 0
    by true hb d hd =
        absurd (some_longer (found prefixed.Colon cs) (sym (found_some prefixed.Start prefixed.Colon c cs (step_is true d hb hd)) ∙ none))
    by false hb true hd =
        let step = step_is false true hb hd in
        let rest = shorter (found prefixed.Prefix cs) (sym (found_some prefixed.Start prefixed.Prefix c cs step) ∙ none) in
        let far = reach_some token_machine (at prefixed.Start) (at prefixed.Prefix) c cs (rw step refl) in
        none_in_run prefixed.Prefix (plain refl) cs rest j (omega arith)
    by false hb false hd =
        absurd (let far = reach_none token_machine (at prefixed.Start) c cs (rw (step_is false false hb hd) refl) in omega arith)

-- ---- in bytes

no_bytes : (n : ℕ) (cs : List ℕ) → bytes n cs ≡ 0 → n ≤ length cs → n ≡ 0
no_bytes zero cs none within = refl
no_bytes (suc n) [] none within = absurd (omega arith)
no_bytes (suc n) (c ∷ cs) none within = absurd (let some = some_bytes n c cs in omega arith)

fewer_bytes : (r : ℕ) (fs es : List ℕ) → r ≤ length fs → bytes r (fs ++ es) ≤ length (encode_utf8_all fs)
fewer_bytes zero fs es within = omega arith
fewer_bytes (suc r) [] es within = absurd (omega arith)
fewer_bytes (suc r) (f ∷ fs) es within =
    let first = first_bytes r f (fs ++ es) in
    let more = fewer_bytes r fs es (omega arith) in
    let all = length-append (encode_utf8 f) (encode_utf8_all fs) in
    let size = length-encode f in
    omega arith

pub no_prefixed : (text : List ℕ) → IsUtf8 text → front_bytes kind.Prefixed text ≡ 0
    → NoPrefixed text (read_bytes token_machine (at prefixed.Start) (chars text))
no_prefixed text whole none front rest parts front_whole less =
    let cs = whole.0 in
    let fs = front_whole.0 in
    let chars_is : chars text ≡ whole.0 = ap chars (sym whole.1.1) ∙ chars-encodes whole.0 whole.1.0 in
    let b = begins front_whole.0 whole.0 rest (whole.1.1 ∙ (parts ∙ ap (λ f. f ++ rest) (sym front_whole.1.1))) in
    let es_is : drop (length front_whole.0) whole.0 ≡ b.0 = ap (drop (length front_whole.0)) b.1.0 ∙ drop_front front_whole.0 b.0 in
    let scalars : all_scalars b.0 ≡ true = ap all_scalars (sym es_is) ∙ scalars-drop (length front_whole.0) whole.0 whole.1.0 in
    let rest_is : chars rest ≡ b.0 = ap chars (sym b.1.1) ∙ chars-encodes b.0 scalars in
    let zero_scan : found prefixed.Start whole.0 ≡ 0
    = no_bytes (found prefixed.Start whole.0) whole.0
    (ap (scanned_bytes token_machine (at prefixed.Start)) (sym chars_is) ∙ (sym (front_is kind.Prefixed text) ∙ none))
    (scan_is token_machine (at prefixed.Start) whole.0).within in
    let size : length front ≡ length (encode_utf8_all front_whole.0) = ap length (sym front_whole.1.1) in
    let read : read_bytes token_machine (at prefixed.Start) (chars text) ≡ bytes (reach token_machine (at prefixed.Start) whole.0) whole.0
    = ap (read_bytes token_machine (at prefixed.Start)) chars_is in
    let split : bytes (reach token_machine (at prefixed.Start) whole.0) whole.0 ≡ bytes (reach token_machine (at prefixed.Start) whole.0) (front_whole.0 ++ b.0)
    = ap (bytes (reach token_machine (at prefixed.Start) whole.0)) b.1.0 in
    let before : length front_whole.0 < reach token_machine (at prefixed.Start) whole.0
    = less_than (reach token_machine (at prefixed.Start) whole.0) (length front_whole.0)
    (λ within. let few = fewer_bytes (reach token_machine (at prefixed.Start) whole.0) front_whole.0 b.0 within in omega arith) in
    let later = none_from_start whole.0 zero_scan (length front_whole.0) before in
    let here : found prefixed.Start (chars rest) ≡ 0 = ap (found prefixed.Start) (rest_is ∙ sym es_is) ∙ later in
    front_is kind.Prefixed rest ∙ ap (λ n. bytes n (chars rest)) here
  where
    less_than : (r n : ℕ) → (r ≤ n → ⊥) → n < r
    less_than r n h = by (nat_lt n r) refl
      where
        by : (b : Bool) → nat_lt n r ≡ b → n < r
        by true is = grind (arith, nat_tests)
        by false is = absurd (h (grind (arith, nat_tests)))

pub no_prefixed_behind : (text front rest : List ℕ) (n : ℕ) → NoPrefixed text n → text ≡ front ++ rest → IsUtf8 front → NoPrefixed rest (n - length front)
no_prefixed_behind text front rest n h parts whole first others split first_whole less =
    let all = length-append front first in
    h (front ++ first) others (parts ∙ (ap (λ r. front ++ r) split ∙ sym (append_assoc front first others))) (IsUtf8-append front first whole first_whole) (omega arith)

pub none_past : (text : List ℕ) → NoPrefixed text 0
none_past text front rest parts whole less = absurd (omega arith)

pub no_prefixed_past : (text : List ℕ) (n k : ℕ) → NoPrefixed text n → IsUtf8 (take k text) → k ≤ length text → NoPrefixed (drop k text) (n - k)
no_prefixed_past text n k h whole within =
    subst (λ m. NoPrefixed (drop k text) (n - m)) (length_take k text within)
    (no_prefixed_behind text (take k text) (drop k text) n h (sym (take-append-drop k text)) whole)
