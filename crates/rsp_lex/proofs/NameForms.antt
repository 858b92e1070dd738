-- Words, variables, labels, prefixed names and tags: their automata accept what is of their form.
use Rattle.std.proofs.Common.{◌≡◌, ℕ, Bool, true, false, List, [], ◌∷◌, refl, sym, ◌∙◌, ap}
use Rattle.std.specs.Prelude.{◌==◌, ◌&&◌, ◌||◌, not}
use Rattle.std.specs.Char.{is_ascii_alphabetic, is_ascii_digit, is_ascii_hexdigit}
use Rattle.rsp_spec.proofs.Truths.{equal_from}
use Rattle.rsp_terms.specs.Characters.{is_base}
use Rattle.rsp_lex.specs.declared.token.TokenKind.TheVariants as kind
use Rattle.rsp_lex.specs.declared.machine.State.TheVariants as state
use Rattle.rsp_lex.specs.declared.names.WordState.TheVariants as word
use Rattle.rsp_lex.specs.declared.names.VariableState.TheVariants as variable
use Rattle.rsp_lex.specs.declared.names.LabelState.TheVariants as label
use Rattle.rsp_lex.specs.declared.names.PrefixedState.{PrefixedState}
use Rattle.rsp_lex.specs.declared.names.PrefixedState.TheVariants as prefixed
use Rattle.rsp_lex.specs.Patterns.{Form, one, ◌before◌, ◌or◌, text, maybe, many, ended}
use Rattle.rsp_lex.specs.Forms.{form, starts_name, continues_name, is_word_character, is_escaped, dotted, local_escape, local}
use Rattle.rsp_lex.specs.Kinds.{accepted}
use Rattle.rsp_lex.proofs.PatternLaws.{Takes, keeps, takes_one, takes_or, takes_before, takes_behind, takes_text, keeps_text, keeps_many, many_is}
use Rattle.rsp_lex.proofs.Automata.{from, chosen, chosen_or, or_none}

-- ---- words

in_word : (cs : List ℕ) → from (state.Word word.Inside) cs ≡ many (one is_word_character) ended cs
in_word = many_is (one is_word_character) (takes_one is_word_character) ended (from (state.Word word.Inside)) goes
  where
    goes : (cs : List ℕ) → from (state.Word word.Inside) cs ≡ (ended cs || one is_word_character (from (state.Word word.Inside)) cs)
    goes [] = refl
    goes (c ∷ cs) = chosen (λ s. state.Word s) word.Inside cs (is_word_character c)

pub word_form : (cs : List ℕ) → accepted kind.Word cs ≡ form kind.Word ended cs
word_form [] = refl
word_form (c ∷ cs) =
    chosen (λ s. state.Word s) word.Inside cs (is_ascii_alphabetic c) ∙ ap (λ b. is_ascii_alphabetic c && b) (in_word cs)

-- ---- variables

abbrev goes_on : ℕ → Bool
goes_on c = continues_name c && not (c == 45)

abbrev begins : ℕ → Bool
begins c = starts_name c || is_ascii_digit c

in_variable : (cs : List ℕ) → from (state.Variable variable.Inside) cs ≡ many (one goes_on) ended cs
in_variable = many_is (one goes_on) (takes_one goes_on) ended (from (state.Variable variable.Inside)) goes
  where
    goes : (cs : List ℕ) → from (state.Variable variable.Inside) cs ≡ (ended cs || one goes_on (from (state.Variable variable.Inside)) cs)
    goes [] = refl
    goes (c ∷ cs) = chosen (λ s. state.Variable s) variable.Inside cs (goes_on c)

behind_sign : (cs : List ℕ) → from (state.Variable variable.Sign) cs ≡ (one begins before many (one goes_on)) ended cs
behind_sign [] = refl
behind_sign (c ∷ cs) =
    chosen (λ s. state.Variable s) variable.Inside cs (begins c) ∙ ap (λ b. begins c && b) (in_variable cs)

pub variable_form : (cs : List ℕ) → accepted kind.Variable cs ≡ form kind.Variable ended cs
variable_form [] = refl
variable_form (c ∷ cs) =
    chosen (λ s. state.Variable s) variable.Sign cs (c == 63 || c == 36) ∙ ap (λ b. (c == 63 || c == 36) && b) (behind_sign cs)

-- ---- names with dots in them: `inside` behind a character, `dot` behind a dot

abbrev dots : Form
dots = many (text (46 ∷ []))

takes_dotted : (q : Form) → Takes q → Takes (dots before q)
takes_dotted q takes = takes_behind dots q (keeps_many (text (46 ∷ [])) (keeps_text (46 ∷ []))) (λ g none. none) takes

module _ (q : Form) (takes : Takes q) (k inside dot : List ℕ → Bool)
    (in_goes : (cs : List ℕ) → inside cs ≡ (k cs || dot cs))
    (dot_goes : (cs : List ℕ) → dot cs ≡ (q inside cs || text (46 ∷ []) dot cs)) where
  dot_is : (cs : List ℕ) → dot cs ≡ dots (q inside) cs
  dot_is = many_is (text (46 ∷ [])) (takes_text 46 []) (q inside) dot dot_goes

  dotted_is : (cs : List ℕ) → inside cs ≡ dotted q k cs
  dotted_is =
      many_is (dots before q) (takes_dotted q takes) k inside (λ cs. in_goes cs ∙ ap (λ b. k cs || b) (dot_is cs))

-- ---- labels

label_dot : (cs : List ℕ) → from (state.Label label.Dot) cs
    ≡ (one continues_name (from (state.Label label.Inside)) cs || text (46 ∷ []) (from (state.Label label.Dot)) cs)
label_dot [] = refl
label_dot (c ∷ cs) = by (c == 46) refl
  where
    at_dot : (c : ℕ) → c ≡ 46 → from (state.Label label.Dot) (c ∷ cs)
        ≡ (one continues_name (from (state.Label label.Inside)) (c ∷ cs) || text (46 ∷ []) (from (state.Label label.Dot)) (c ∷ cs))
    at_dot c is = rw is refl

    by : (b : Bool) → (c == 46) ≡ b → from (state.Label label.Dot) (c ∷ cs)
        ≡ (one continues_name (from (state.Label label.Inside)) (c ∷ cs) || text (46 ∷ []) (from (state.Label label.Dot)) (c ∷ cs))
    by true h = at_dot c (equal_from c 46 h)
    by false h = rw h (chosen_or (λ s. state.Label s) label.Inside cs (continues_name c))

label_inside : (cs : List ℕ) → from (state.Label label.Inside) cs ≡ (ended cs || from (state.Label label.Dot) cs)
label_inside [] = refl
label_inside (c ∷ cs) = refl

in_label : (cs : List ℕ) → from (state.Label label.Inside) cs ≡ dotted (one continues_name) ended cs
in_label =
    dotted_is (one continues_name) (takes_one continues_name) ended (from (state.Label label.Inside)) (from (state.Label label.Dot))
    label_inside label_dot

label_begun : (cs : List ℕ) → from (state.Label label.Begun) cs ≡ (one begins before dotted (one continues_name)) ended cs
label_begun [] = refl
label_begun (c ∷ cs) = chosen (λ s. state.Label s) label.Inside cs (begins c) ∙ ap (λ b. begins c && b) (in_label cs)

label_colon : (cs : List ℕ) → from (state.Label label.Underscore) cs ≡ text (58 ∷ []) ((one begins before dotted (one continues_name)) ended) cs
label_colon [] = refl
label_colon (c ∷ cs) = chosen (λ s. state.Label s) label.Begun cs (c == 58) ∙ ap (λ b. (c == 58) && b) (label_begun cs)

pub label_form : (cs : List ℕ) → accepted kind.Label cs ≡ form kind.Label ended cs
label_form [] = refl
label_form (c ∷ cs) = chosen (λ s. state.Label s) label.Underscore cs (c == 95) ∙ ap (λ b. (c == 95) && b) (label_colon cs)

-- ---- the local part of a prefixed name

abbrev at : PrefixedState → List ℕ → Bool
at s cs = from (state.Prefixed s) cs

hex_one : (cs : List ℕ) → at prefixed.PercentDigit cs ≡ one is_ascii_hexdigit (at prefixed.Local) cs
hex_one [] = refl
hex_one (c ∷ cs) = chosen (λ s. state.Prefixed s) prefixed.Local cs (is_ascii_hexdigit c)

hex_two : (cs : List ℕ) → at prefixed.Percent cs ≡ (one is_ascii_hexdigit before one is_ascii_hexdigit) (at prefixed.Local) cs
hex_two [] = refl
hex_two (c ∷ cs) =
    chosen (λ s. state.Prefixed s) prefixed.PercentDigit cs (is_ascii_hexdigit c) ∙ ap (λ b. is_ascii_hexdigit c && b) (hex_one cs)

backslash : (cs : List ℕ) → at prefixed.Backslash cs ≡ one is_escaped (at prefixed.Local) cs
backslash [] = refl
backslash (c ∷ cs) = chosen (λ s. state.Prefixed s) prefixed.Local cs (is_escaped c)

abbrev goes_local : ℕ → Bool
goes_local c = continues_name c || c == 58

abbrev begins_local : ℕ → Bool
begins_local c = starts_name c || (c == 58 || is_ascii_digit c)

takes_local_escape : Takes local_escape
takes_local_escape =
    takes_or (text (37 ∷ []) before (one is_ascii_hexdigit before one is_ascii_hexdigit)) (text (92 ∷ []) before one is_escaped)
    (takes_before (text (37 ∷ [])) (one is_ascii_hexdigit before one is_ascii_hexdigit) (takes_text 37 [])
    (keeps (one is_ascii_hexdigit before one is_ascii_hexdigit)
    (takes_before (one is_ascii_hexdigit) (one is_ascii_hexdigit) (takes_one is_ascii_hexdigit) (keeps (one is_ascii_hexdigit) (takes_one is_ascii_hexdigit)))))
    (takes_before (text (92 ∷ [])) (one is_escaped) (takes_text 92 []) (keeps (one is_escaped) (takes_one is_escaped)))

-- a character of a class, or an escape, and then the local part
record Parts (t : ℕ → Bool) (c : ℕ) (cs : List ℕ) : Type 0 where
  percent : c ≡ 37 → (one t or local_escape) (at prefixed.Local) (c ∷ cs) ≡ at prefixed.Percent cs
  slash : c ≡ 92 → (one t or local_escape) (at prefixed.Local) (c ∷ cs) ≡ at prefixed.Backslash cs
  other : (c == 37) ≡ false → (c == 92) ≡ false
      → (one t or local_escape) (at prefixed.Local) (c ∷ cs) ≡ (t c && at prefixed.Local cs)

parts : (t : ℕ → Bool) → t 37 ≡ false → t 92 ≡ false → (c : ℕ) (cs : List ℕ) → Parts t c cs
parts t no_percent no_slash c cs = record {
  percent = λ is. rw (is, no_percent) (sym (hex_two cs ∙ or_none ((one is_ascii_hexdigit before one is_ascii_hexdigit) (at prefixed.Local) cs)));
  slash = λ is. rw (is, no_slash) (sym (backslash cs));
  other = λ p s. rw (p, s) (sym (or_none (t c && at prefixed.Local cs)));
}

local_dot : (cs : List ℕ) → at prefixed.LocalDot cs
    ≡ ((one goes_local or local_escape) (at prefixed.Local) cs || text (46 ∷ []) (at prefixed.LocalDot) cs)
local_dot [] = refl
local_dot (c ∷ cs) = by (c == 46) refl (c == 37) refl (c == 92) refl
  where
    at_dot : (c : ℕ) → c ≡ 46 → at prefixed.LocalDot (c ∷ cs)
        ≡ ((one goes_local or local_escape) (at prefixed.Local) (c ∷ cs) || text (46 ∷ []) (at prefixed.LocalDot) (c ∷ cs))
    at_dot c is = rw is refl

    at_percent : (c : ℕ) → c ≡ 37 → at prefixed.LocalDot (c ∷ cs)
        ≡ ((one goes_local or local_escape) (at prefixed.Local) (c ∷ cs) || text (46 ∷ []) (at prefixed.LocalDot) (c ∷ cs))
    at_percent c is = rw ((parts goes_local refl refl c cs).percent is, is) (or_none (at prefixed.Percent cs))

    at_slash : (c : ℕ) → c ≡ 92 → at prefixed.LocalDot (c ∷ cs)
        ≡ ((one goes_local or local_escape) (at prefixed.Local) (c ∷ cs) || text (46 ∷ []) (at prefixed.LocalDot) (c ∷ cs))
    at_slash c is = rw ((parts goes_local refl refl c cs).slash is, is) (or_none (at prefixed.Backslash cs))

    by : (a : Bool) → (c == 46) ≡ a → (p : Bool) → (c == 37) ≡ p → (s : Bool) → (c == 92) ≡ s → at prefixed.LocalDot (c ∷ cs)
        ≡ ((one goes_local or local_escape) (at prefixed.Local) (c ∷ cs) || text (46 ∷ []) (at prefixed.LocalDot) (c ∷ cs))
    by true h p hp s hs = at_dot c (equal_from c 46 h)
    by false h true hp s hs = at_percent c (equal_from c 37 hp)
    by false h false hp true hs = at_slash c (equal_from c 92 hs)
    by false h false hp false hs =
        rw ((parts goes_local refl refl c cs).other hp hs, h, hp, hs) (chosen_or (λ s. state.Prefixed s) prefixed.Local cs (goes_local c))

local_inside : (cs : List ℕ) → at prefixed.Local cs ≡ (ended cs || at prefixed.LocalDot cs)
local_inside [] = refl
local_inside (c ∷ cs) = refl

takes_local : Takes (one goes_local or local_escape)
takes_local = takes_or (one goes_local) local_escape (takes_one goes_local) takes_local_escape

in_local : (cs : List ℕ) → at prefixed.Local cs ≡ dotted (one goes_local or local_escape) ended cs
in_local =
    dotted_is (one goes_local or local_escape) takes_local ended (at prefixed.Local) (at prefixed.LocalDot) local_inside local_dot

local_begun : (c : ℕ) (cs : List ℕ) → at prefixed.Colon (c ∷ cs) ≡ (one begins_local or local_escape) (at prefixed.Local) (c ∷ cs)
local_begun c cs = by (c == 37) refl (c == 92) refl
  where
    at_percent : (c : ℕ) → c ≡ 37 → at prefixed.Colon (c ∷ cs) ≡ (one begins_local or local_escape) (at prefixed.Local) (c ∷ cs)
    at_percent c is = rw ((parts begins_local refl refl c cs).percent is, is) refl

    at_slash : (c : ℕ) → c ≡ 92 → at prefixed.Colon (c ∷ cs) ≡ (one begins_local or local_escape) (at prefixed.Local) (c ∷ cs)
    at_slash c is = rw ((parts begins_local refl refl c cs).slash is, is) refl

    by : (p : Bool) → (c == 37) ≡ p → (s : Bool) → (c == 92) ≡ s
        → at prefixed.Colon (c ∷ cs) ≡ (one begins_local or local_escape) (at prefixed.Local) (c ∷ cs)
    by true hp s hs = at_percent c (equal_from c 37 hp)
    by false hp true hs = at_slash c (equal_from c 92 hs)
    by false hp false hs =
        rw ((parts begins_local refl refl c cs).other hp hs, hp, hs) (chosen (λ s. state.Prefixed s) prefixed.Local cs (begins_local c))

behind_colon : (cs : List ℕ) → at prefixed.Colon cs ≡ maybe local ended cs
behind_colon [] = refl
behind_colon (c ∷ cs) =
    local_begun c cs
    ∙ (takes_or (one begins_local) local_escape (takes_one begins_local) takes_local_escape).on
    (at prefixed.Local) (dotted (one goes_local or local_escape) ended) (c ∷ cs) (λ ds below. in_local ds)

-- ---- prefixed names

abbrev colon : List ℕ → Bool
colon = text (58 ∷ []) (maybe local ended)

prefix_dot : (cs : List ℕ) → at prefixed.PrefixDot cs ≡ (one continues_name (at prefixed.Prefix) cs || text (46 ∷ []) (at prefixed.PrefixDot) cs)
prefix_dot [] = refl
prefix_dot (c ∷ cs) = by (c == 46) refl
  where
    at_dot : (c : ℕ) → c ≡ 46 → at prefixed.PrefixDot (c ∷ cs)
        ≡ (one continues_name (at prefixed.Prefix) (c ∷ cs) || text (46 ∷ []) (at prefixed.PrefixDot) (c ∷ cs))
    at_dot c is = rw is refl

    by : (b : Bool) → (c == 46) ≡ b → at prefixed.PrefixDot (c ∷ cs)
        ≡ (one continues_name (at prefixed.Prefix) (c ∷ cs) || text (46 ∷ []) (at prefixed.PrefixDot) (c ∷ cs))
    by true h = at_dot c (equal_from c 46 h)
    by false h = rw h (chosen_or (λ s. state.Prefixed s) prefixed.Prefix cs (continues_name c))

prefix_inside : (cs : List ℕ) → at prefixed.Prefix cs ≡ (colon cs || at prefixed.PrefixDot cs)
prefix_inside [] = refl
prefix_inside (c ∷ cs) = by (c == 58) refl
  where
    at_colon : (c : ℕ) → c ≡ 58 → at prefixed.Prefix (c ∷ cs) ≡ (colon (c ∷ cs) || at prefixed.PrefixDot (c ∷ cs))
    at_colon c is = rw is (behind_colon cs ∙ or_none (maybe local ended cs))

    by : (b : Bool) → (c == 58) ≡ b → at prefixed.Prefix (c ∷ cs) ≡ (colon (c ∷ cs) || at prefixed.PrefixDot (c ∷ cs))
    by true h = at_colon c (equal_from c 58 h)
    by false h = rw h refl

in_prefix : (cs : List ℕ) → at prefixed.Prefix cs ≡ dotted (one continues_name) colon cs
in_prefix =
    dotted_is (one continues_name) (takes_one continues_name) colon (at prefixed.Prefix) (at prefixed.PrefixDot) prefix_inside prefix_dot

pub prefixed_form : (cs : List ℕ) → accepted kind.Prefixed cs ≡ form kind.Prefixed ended cs
prefixed_form [] = refl
prefixed_form (c ∷ cs) = by (c == 58) refl
  where
    at_colon : (c : ℕ) → c ≡ 58 → accepted kind.Prefixed (c ∷ cs) ≡ form kind.Prefixed ended (c ∷ cs)
    at_colon c is = rw is (behind_colon cs ∙ or_none (maybe local ended cs))

    by : (b : Bool) → (c == 58) ≡ b → accepted kind.Prefixed (c ∷ cs) ≡ form kind.Prefixed ended (c ∷ cs)
    by true h = at_colon c (equal_from c 58 h)
    by false h = rw h (chosen (λ s. state.Prefixed s) prefixed.Prefix cs (is_base c) ∙ ap (λ b. is_base c && b) (in_prefix cs))
