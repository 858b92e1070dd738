-- IRIs, strings and symbols: their automata accept what is of their form.
use Rattle.std.proofs.Common.{◌≡◌, ℕ, Bool, true, false, List, [], ◌∷◌, refl, sym, ◌∙◌, ap, if◌then◌else◌, Option, Some, None}
use Rattle.std.specs.Prelude.{◌==◌, ◌&&◌, ◌||◌, not}
use Rattle.std.specs.Option.{option_map, option_and_then}
use Rattle.rsp_spec.proofs.Truths.{equal_from}
use Rattle.rsp_terms.specs.Characters.{is_iri_character}
use Rattle.rsp_lex.specs.declared.quoted.Quote.{Quote}
use Rattle.rsp_lex.specs.declared.quoted.Quote.TheVariants.{Double, Single}
use Rattle.rsp_scan.specs.declared.escaping.Escape.{Escape}
use Rattle.rsp_scan.specs.declared.escaping.Escape.TheVariants.{Begun}
use Rattle.rsp_scan.specs.declared.escaping.Escaped.{Escaped}
use Rattle.rsp_scan.specs.declared.escaping.Escaped.TheVariants.{More, Whole}
use Rattle.rsp_lex.specs.Quoted.{quote_sign}
use Rattle.rsp_scan.specs.Escaping.{uchar_step, escape_step}
use Rattle.rsp_lex.specs.declared.token.TokenKind.TheVariants as kind
use Rattle.rsp_lex.specs.declared.machine.State.TheVariants as state
use Rattle.rsp_lex.specs.declared.quoted.IriState.TheVariants as iri
use Rattle.rsp_lex.specs.declared.quoted.StringState.{StringState}
use Rattle.rsp_lex.specs.declared.quoted.StringState.TheVariants as string
use Rattle.rsp_lex.specs.Patterns.{Form, one, ◌before◌, ◌or◌, text, maybe, many, behind_part, escaped, escape_of, ended}
use Rattle.rsp_lex.specs.Quoted.{iri_behind, short_behind, long_behind}
use Rattle.rsp_lex.specs.Forms.{form, escape, in_long}
use Rattle.rsp_lex.specs.Kinds.{accepted}
use Rattle.rsp_lex.proofs.PatternLaws.{Takes, keeps, takes_one, takes_or, takes_behind, takes_text, keeps_maybe, takes_escape, many_is}
use Rattle.rsp_lex.proofs.Automata.{from, on, chosen, chosen_or, or_none}

abbrev Test : Type 0
Test = List ℕ → Bool

-- ---- IRIs

abbrev iri_inside : Test
iri_inside cs = from (state.Iri iri.Inside) cs

iri_closed : (cs : List ℕ) → from (state.Iri iri.Closed) cs ≡ ended cs
iri_closed [] = refl
iri_closed (c ∷ cs) = refl

iri_part : (cs : List ℕ) → ((e : Escape) → from (state.Iri (iri.Escape e)) cs ≡ escaped uchar_step is_iri_character e iri_inside cs)
    → (o : Option Escaped) → on (option_map (λ s. state.Iri s) (option_and_then iri_behind o)) cs
    ≡ behind_part is_iri_character (λ next. escaped uchar_step is_iri_character next iri_inside cs) (iri_inside cs) o
iri_part cs more None = refl
iri_part cs more (Some (More e)) = more e
iri_part cs more (Some (Whole v)) = chosen (λ s. state.Iri s) iri.Inside cs (is_iri_character v)

iri_escape : (cs : List ℕ) (e : Escape) → from (state.Iri (iri.Escape e)) cs ≡ escaped uchar_step is_iri_character e iri_inside cs
iri_escape [] e = refl
iri_escape (c ∷ cs) e = iri_part cs (iri_escape cs) (uchar_step e c)

abbrev iri_character : Form
iri_character = one is_iri_character or escape_of uchar_step is_iri_character

abbrev closing : Test
closing = text (62 ∷ []) ended

abbrev IriGoes : ℕ → List ℕ → Type 0
IriGoes c cs = iri_inside (c ∷ cs) ≡ (closing (c ∷ cs) || iri_character iri_inside (c ∷ cs))

iri_close : (cs : List ℕ) (c : ℕ) → c ≡ 62 → IriGoes c cs
iri_close cs c is = rw is (iri_closed cs ∙ or_none (ended cs))

iri_slash : (cs : List ℕ) (c : ℕ) → c ≡ 92 → IriGoes c cs
iri_slash cs c is = rw is (iri_escape cs Begun)

iri_by : (cs : List ℕ) (c : ℕ) (a : Bool) → (c == 62) ≡ a → (b : Bool) → (c == 92) ≡ b → IriGoes c cs
iri_by cs c true h b g = iri_close cs c (equal_from c 62 h)
iri_by cs c false h true g = iri_slash cs c (equal_from c 92 g)
iri_by cs c false h false g = rw (h, g) (chosen_or (λ s. state.Iri s) iri.Inside cs (is_iri_character c))

iri_goes : (cs : List ℕ) → iri_inside cs ≡ (closing cs || iri_character iri_inside cs)
iri_goes [] = refl
iri_goes (c ∷ cs) = iri_by cs c (c == 62) refl (c == 92) refl

in_iri : (cs : List ℕ) → iri_inside cs ≡ many iri_character closing cs
in_iri =
    many_is iri_character
    (takes_or (one is_iri_character) (escape_of uchar_step is_iri_character) (takes_one is_iri_character) (takes_escape uchar_step is_iri_character))
    closing iri_inside iri_goes

pub iri_form : (cs : List ℕ) → accepted kind.Iri cs ≡ form kind.Iri ended cs
iri_form [] = refl
iri_form (c ∷ cs) = chosen (λ s. state.Iri s) iri.Inside cs (c == 60) ∙ ap (λ b. (c == 60) && b) (in_iri cs)

-- ---- strings

abbrev at : StringState → Test
at s cs = from (state.String s) cs

abbrev any : ℕ → Bool
any c = true

string_closed : (cs : List ℕ) → at string.Closed cs ≡ ended cs
string_closed [] = refl
string_closed (c ∷ cs) = refl

short_part : (q : Quote) (cs : List ℕ)
    → ((e : Escape) → at (string.ShortEscape q e) cs ≡ escaped escape_step any e (at (string.Short q)) cs)
    → (o : Option Escaped) → on (option_map (λ s. state.String s) (option_map (short_behind q) o)) cs
    ≡ behind_part any (λ next. escaped escape_step any next (at (string.Short q)) cs) (at (string.Short q) cs) o
short_part q cs more None = refl
short_part q cs more (Some (More e)) = more e
short_part q cs more (Some (Whole v)) = refl

short_escape : (q : Quote) (cs : List ℕ) (e : Escape) → at (string.ShortEscape q e) cs ≡ escaped escape_step any e (at (string.Short q)) cs
short_escape q [] e = refl
short_escape q (c ∷ cs) e = short_part q cs (short_escape q cs) (escape_step e c)

long_part : (q : Quote) (cs : List ℕ)
    → ((e : Escape) → at (string.LongEscape q e) cs ≡ escaped escape_step any e (at (string.Long q 0)) cs)
    → (o : Option Escaped) → on (option_map (λ s. state.String s) (option_map (long_behind q) o)) cs
    ≡ behind_part any (λ next. escaped escape_step any next (at (string.Long q 0)) cs) (at (string.Long q 0) cs) o
long_part q cs more None = refl
long_part q cs more (Some (More e)) = more e
long_part q cs more (Some (Whole v)) = refl

long_escape : (q : Quote) (cs : List ℕ) (e : Escape) → at (string.LongEscape q e) cs ≡ escaped escape_step any e (at (string.Long q 0)) cs
long_escape q [] e = refl
long_escape q (c ∷ cs) e = long_part q cs (long_escape q cs) (escape_step e c)

-- what is so at the quote, at `\` and at what is neither
by_sign : (q : Quote) (P : ℕ → Type 0) (c : ℕ) → ((d : ℕ) → d ≡ quote_sign q → P d) → ((d : ℕ) → d ≡ 92 → P d)
    → ((c == quote_sign q) ≡ false → (c == 92) ≡ false → P c) → P c
by_sign q P c at_quote at_slash other = by (c == quote_sign q) refl (c == 92) refl
  where
    by : (a : Bool) → (c == quote_sign q) ≡ a → (b : Bool) → (c == 92) ≡ b → P c
    by true h b g = at_quote c (equal_from c (quote_sign q) h)
    by false h true g = at_slash c (equal_from c 92 g)
    by false h false g = other h g

-- ---- short strings

abbrev in_short : ℕ → Form
in_short quote = one (λ c. not (c == quote) && not (c == 92 || (c == 10 || c == 13))) or escape

abbrev ShortGoes : Quote → List ℕ → ℕ → Type 0
ShortGoes q cs c =
    at (string.Short q) (c ∷ cs) ≡ (text (quote_sign q ∷ []) ended (c ∷ cs) || in_short (quote_sign q) (at (string.Short q)) (c ∷ cs))

short_quote : (q : Quote) (cs : List ℕ) (c : ℕ) → c ≡ quote_sign q → ShortGoes q cs c
short_quote Double cs c is = rw is (string_closed cs ∙ or_none (ended cs))
short_quote Single cs c is = rw is (string_closed cs ∙ or_none (ended cs))

short_slash : (q : Quote) (cs : List ℕ) (c : ℕ) → c ≡ 92 → ShortGoes q cs c
short_slash Double cs c is = rw is (short_escape Double cs Begun)
short_slash Single cs c is = rw is (short_escape Single cs Begun)

kept : (q : Quote) (cs : List ℕ) (line_end : Bool)
    → on (option_map (λ s. state.String s) (if line_end then None else Some (string.Short q))) cs
    ≡ ((not line_end && at (string.Short q) cs) || false)
kept q cs true = refl
kept q cs false = or_none (at (string.Short q) cs)

short_other : (q : Quote) (cs : List ℕ) (c : ℕ) → (c == quote_sign q) ≡ false → (c == 92) ≡ false → ShortGoes q cs c
short_other q cs c h g = rw (h, g) (kept q cs (c == 10 || c == 13))

short_goes : (q : Quote) (cs : List ℕ)
    → at (string.Short q) cs ≡ (text (quote_sign q ∷ []) ended cs || in_short (quote_sign q) (at (string.Short q)) cs)
short_goes q [] = refl
short_goes q (c ∷ cs) = by_sign q (ShortGoes q cs) c (short_quote q cs) (short_slash q cs) (short_other q cs c)

abbrev short_rest : ℕ → Test
short_rest quote = many (in_short quote) (text (quote ∷ []) ended)

short_is : (q : Quote) (cs : List ℕ) → at (string.Short q) cs ≡ short_rest (quote_sign q) cs
short_is q =
    let class : ℕ → Bool = λ c. not (c == quote_sign q) && not (c == 92 || (c == 10 || c == 13)) in
    many_is (in_short (quote_sign q)) (takes_or (one class) escape (takes_one class) (takes_escape escape_step any))
    (text (quote_sign q ∷ []) ended) (at (string.Short q)) (short_goes q)

-- ---- long strings

abbrev In : Quote → Test
In q cs = in_long (quote_sign q) (at (string.Long q 0)) cs

abbrev two : Quote → Test
two q cs = text (quote_sign q ∷ []) ended cs || In q cs

abbrev one_seen : Quote → Test
one_seen q cs = text (quote_sign q ∷ quote_sign q ∷ []) ended cs || (In q cs || text (quote_sign q ∷ []) (In q) cs)

abbrev quotes : ℕ → Form
quotes quote = text (quote ∷ []) or text (quote ∷ quote ∷ [])

abbrev three : ℕ → Test
three quote = text (quote ∷ quote ∷ quote ∷ []) ended

abbrev none_seen : Quote → Test
none_seen q cs = three (quote_sign q) cs || (maybe (quotes (quote_sign q)) before in_long (quote_sign q)) (at (string.Long q 0)) cs

-- behind two quotes

two_quote : (q : Quote) (cs : List ℕ) (c : ℕ) → c ≡ quote_sign q → at (string.Long q 2) (c ∷ cs) ≡ two q (c ∷ cs)
two_quote Double cs c is = rw is (string_closed cs ∙ or_none (ended cs))
two_quote Single cs c is = rw is (string_closed cs ∙ or_none (ended cs))

two_slash : (q : Quote) (cs : List ℕ) (c : ℕ) → c ≡ 92 → at (string.Long q 2) (c ∷ cs) ≡ two q (c ∷ cs)
two_slash Double cs c is = rw is (long_escape Double cs Begun)
two_slash Single cs c is = rw is (long_escape Single cs Begun)

two_other : (q : Quote) (cs : List ℕ) (c : ℕ) → (c == quote_sign q) ≡ false → (c == 92) ≡ false
    → at (string.Long q 2) (c ∷ cs) ≡ two q (c ∷ cs)
two_other q cs c h g = rw (h, g) (or_none (at (string.Long q 0) cs))

two_is : (q : Quote) (cs : List ℕ) → at (string.Long q 2) cs ≡ two q cs
two_is q [] = refl
two_is q (c ∷ cs) =
    by_sign q (λ d. at (string.Long q 2) (d ∷ cs) ≡ two q (d ∷ cs)) c (two_quote q cs) (two_slash q cs) (two_other q cs c)

-- behind one

one_quote : (q : Quote) (cs : List ℕ) (c : ℕ) → c ≡ quote_sign q → at (string.Long q 1) (c ∷ cs) ≡ one_seen q (c ∷ cs)
one_quote Double cs c is = rw is (two_is Double cs)
one_quote Single cs c is = rw is (two_is Single cs)

one_slash : (q : Quote) (cs : List ℕ) (c : ℕ) → c ≡ 92 → at (string.Long q 1) (c ∷ cs) ≡ one_seen q (c ∷ cs)
one_slash Double cs c is = rw is (long_escape Double cs Begun ∙ or_none (escaped escape_step any Begun (at (string.Long Double 0)) cs))
one_slash Single cs c is = rw is (long_escape Single cs Begun ∙ or_none (escaped escape_step any Begun (at (string.Long Single 0)) cs))

one_other : (q : Quote) (cs : List ℕ) (c : ℕ) → (c == quote_sign q) ≡ false → (c == 92) ≡ false
    → at (string.Long q 1) (c ∷ cs) ≡ one_seen q (c ∷ cs)
one_other q cs c h g = rw (h, g) (or_none (at (string.Long q 0) cs) ∙ or_none (at (string.Long q 0) cs || false))

one_is : (q : Quote) (cs : List ℕ) → at (string.Long q 1) cs ≡ one_seen q cs
one_is q [] = refl
one_is q (c ∷ cs) =
    by_sign q (λ d. at (string.Long q 1) (d ∷ cs) ≡ one_seen q (d ∷ cs)) c (one_quote q cs) (one_slash q cs) (one_other q cs c)

-- behind none

none_quote : (q : Quote) (cs : List ℕ) (c : ℕ) → c ≡ quote_sign q → at (string.Long q 0) (c ∷ cs) ≡ none_seen q (c ∷ cs)
none_quote Double cs c is = rw is (one_is Double cs)
none_quote Single cs c is = rw is (one_is Single cs)

none_slash : (q : Quote) (cs : List ℕ) (c : ℕ) → c ≡ 92 → at (string.Long q 0) (c ∷ cs) ≡ none_seen q (c ∷ cs)
none_slash Double cs c is = rw is (long_escape Double cs Begun ∙ or_none (escaped escape_step any Begun (at (string.Long Double 0)) cs))
none_slash Single cs c is = rw is (long_escape Single cs Begun ∙ or_none (escaped escape_step any Begun (at (string.Long Single 0)) cs))

none_other : (q : Quote) (cs : List ℕ) (c : ℕ) → (c == quote_sign q) ≡ false → (c == 92) ≡ false
    → at (string.Long q 0) (c ∷ cs) ≡ none_seen q (c ∷ cs)
none_other q cs c h g = rw (h, g) (or_none (at (string.Long q 0) cs) ∙ or_none (at (string.Long q 0) cs || false))

none_is : (q : Quote) (cs : List ℕ) → at (string.Long q 0) cs ≡ none_seen q cs
none_is q [] = refl
none_is q (c ∷ cs) =
    by_sign q (λ d. at (string.Long q 0) (d ∷ cs) ≡ none_seen q (d ∷ cs)) c (none_quote q cs) (none_slash q cs) (none_other q cs c)

takes_in_long : (quote : ℕ) → Takes (in_long quote)
takes_in_long quote =
    let class : ℕ → Bool = λ c. not (c == quote) && not (c == 92) in
    takes_or (one class) escape (takes_one class) (takes_escape escape_step any)

takes_long : (quote : ℕ) → Takes (maybe (quotes quote) before in_long quote)
takes_long quote =
    let some = takes_or (text (quote ∷ [])) (text (quote ∷ quote ∷ [])) (takes_text quote []) (takes_text quote (quote ∷ [])) in
    takes_behind (maybe (quotes quote)) (in_long quote) (keeps_maybe (quotes quote) (keeps (quotes quote) some))
    (λ g none. ap (λ b. b || false) none) (takes_in_long quote)

abbrev long_rest : ℕ → Test
long_rest quote = many (maybe (quotes quote) before in_long quote) (three quote)

long_is : (q : Quote) (cs : List ℕ) → at (string.Long q 0) cs ≡ long_rest (quote_sign q) cs
long_is q =
    many_is (maybe (quotes (quote_sign q)) before in_long (quote_sign q)) (takes_long (quote_sign q)) (three (quote_sign q))
    (at (string.Long q 0)) (none_is q)

-- ---- behind the first quote

empty_is : (q : Quote) (cs : List ℕ) → at (string.Empty q) cs ≡ (ended cs || text (quote_sign q ∷ []) (long_rest (quote_sign q)) cs)
empty_is q [] = refl
empty_is q (c ∷ cs) =
    chosen (λ s. state.String s) (string.Long q 0) cs (c == quote_sign q) ∙ ap (λ b. (c == quote_sign q) && b) (long_is q cs)

abbrev opened : Quote → Test
opened q cs =
    short_rest (quote_sign q) cs || text (quote_sign q ∷ quote_sign q ∷ []) (long_rest (quote_sign q)) cs

opened_quote : (q : Quote) (cs : List ℕ) (c : ℕ) → c ≡ quote_sign q → at (string.Opened q) (c ∷ cs) ≡ opened q (c ∷ cs)
opened_quote q cs c is =
    step q cs c is ∙ (empty_is q cs ∙ sym (ap (λ b. b || text (quote_sign q ∷ quote_sign q ∷ []) (long_rest (quote_sign q)) (c ∷ cs)) (closes q cs c is) ∙ behind q cs c is))
  where
    step : (q : Quote) (cs : List ℕ) (c : ℕ) → c ≡ quote_sign q → at (string.Opened q) (c ∷ cs) ≡ at (string.Empty q) cs
    step Double cs c is = rw is refl
    step Single cs c is = rw is refl

    closes : (q : Quote) (cs : List ℕ) (c : ℕ) → c ≡ quote_sign q → short_rest (quote_sign q) (c ∷ cs) ≡ ended cs
    closes q cs c is = sym (short_is q (c ∷ cs)) ∙ at_close q cs c is
      where
        at_close : (q : Quote) (cs : List ℕ) (c : ℕ) → c ≡ quote_sign q → at (string.Short q) (c ∷ cs) ≡ ended cs
        at_close Double cs c is = rw is (string_closed cs)
        at_close Single cs c is = rw is (string_closed cs)

    behind : (q : Quote) (cs : List ℕ) (c : ℕ) → c ≡ quote_sign q
        → (ended cs || text (quote_sign q ∷ quote_sign q ∷ []) (long_rest (quote_sign q)) (c ∷ cs))
        ≡ (ended cs || text (quote_sign q ∷ []) (long_rest (quote_sign q)) cs)
    behind Double cs c is = rw is refl
    behind Single cs c is = rw is refl

opened_other : (q : Quote) (cs : List ℕ) (c : ℕ) → (c == quote_sign q) ≡ false → at (string.Opened q) (c ∷ cs) ≡ opened q (c ∷ cs)
opened_other q cs c h = same ∙ (short_is q (c ∷ cs) ∙ (or_none (short_rest (quote_sign q) (c ∷ cs)) ∙ ap (λ b. short_rest (quote_sign q) (c ∷ cs) || b) no_quote))
  where
    same : at (string.Opened q) (c ∷ cs) ≡ at (string.Short q) (c ∷ cs)
    same = rw h refl

    no_quote : false ≡ text (quote_sign q ∷ quote_sign q ∷ []) (long_rest (quote_sign q)) (c ∷ cs)
    no_quote = rw h refl

opened_is : (q : Quote) (cs : List ℕ) → at (string.Opened q) cs ≡ opened q cs
opened_is q [] = refl
opened_is q (c ∷ cs) = by (c == quote_sign q) refl
  where
    by : (b : Bool) → (c == quote_sign q) ≡ b → at (string.Opened q) (c ∷ cs) ≡ opened q (c ∷ cs)
    by true h = opened_quote q cs c (equal_from c (quote_sign q) h)
    by false h = opened_other q cs c h

pub string_form : (cs : List ℕ) → accepted kind.String cs ≡ form kind.String ended cs
string_form [] = refl
string_form (c ∷ cs) = by (c == 34) refl (c == 39) refl
  where
    at_double : (c : ℕ) → c ≡ 34 → accepted kind.String (c ∷ cs) ≡ form kind.String ended (c ∷ cs)
    at_double c is = rw is (opened_is Double cs ∙ or_none (opened Double cs))

    at_single : (c : ℕ) → c ≡ 39 → accepted kind.String (c ∷ cs) ≡ form kind.String ended (c ∷ cs)
    at_single c is = rw is (opened_is Single cs)

    by : (a : Bool) → (c == 34) ≡ a → (b : Bool) → (c == 39) ≡ b → accepted kind.String (c ∷ cs) ≡ form kind.String ended (c ∷ cs)
    by true h b g = at_double c (equal_from c 34 h)
    by false h true g = at_single c (equal_from c 39 g)
    by false h false g = rw (h, g) refl
