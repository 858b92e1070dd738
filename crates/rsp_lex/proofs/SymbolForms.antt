-- Tags and symbols: their automata accept what is of their form.
use Rattle.std.proofs.Common.{◌≡◌, ℕ, Bool, true, false, List, [], ◌∷◌, refl, ◌∙◌, ap}
use Rattle.std.specs.Prelude.{◌==◌, ◌&&◌, ◌||◌}
use Rattle.std.specs.Char.{is_ascii_alphabetic, is_ascii_alphanumeric}
use Rattle.rsp_spec.proofs.Truths.{equal_from}
use Rattle.rsp_lex.specs.declared.token.TokenKind.TheVariants as kind
use Rattle.rsp_lex.specs.declared.machine.State.TheVariants as state
use Rattle.rsp_lex.specs.declared.names.TagState.{TagState}
use Rattle.rsp_lex.specs.declared.names.TagState.TheVariants as tag
use Rattle.rsp_lex.specs.declared.symbols.SymbolState.{SymbolState}
use Rattle.rsp_lex.specs.declared.symbols.SymbolState.TheVariants as symbol
use Rattle.rsp_lex.specs.Patterns.{Form, one, ◌before◌, text, maybe, many, some, ended}
use Rattle.rsp_lex.specs.Forms.{form, is_single}
use Rattle.rsp_lex.specs.Kinds.{accepted}
use Rattle.rsp_lex.proofs.PatternLaws.{Takes, keeps, takes_one, takes_before, takes_text, keeps_many, many_is}
use Rattle.rsp_lex.proofs.Automata.{from, chosen, or_none}

abbrev Test : Type 0
Test = List ℕ → Bool

-- ---- tags

abbrev at : TagState → Test
at s cs = from (state.Tag s) cs

-- the end, or a further subtag
abbrev subtags : Test
subtags cs = ended cs || text (45 ∷ []) (at tag.Hyphen) cs

further_goes : (cs : List ℕ) → at tag.Further cs ≡ (subtags cs || one is_ascii_alphanumeric (at tag.Further) cs)
further_goes [] = refl
further_goes (c ∷ cs) = by (c == 45) refl
  where
    at_hyphen : (c : ℕ) → c ≡ 45 → at tag.Further (c ∷ cs) ≡ (subtags (c ∷ cs) || one is_ascii_alphanumeric (at tag.Further) (c ∷ cs))
    at_hyphen c is = rw is (or_none (at tag.Hyphen cs))

    by : (b : Bool) → (c == 45) ≡ b → at tag.Further (c ∷ cs) ≡ (subtags (c ∷ cs) || one is_ascii_alphanumeric (at tag.Further) (c ∷ cs))
    by true h = at_hyphen c (equal_from c 45 h)
    by false h = rw h (chosen (λ s. state.Tag s) tag.Further cs (is_ascii_alphanumeric c))

first_goes : (cs : List ℕ) → at tag.First cs ≡ (subtags cs || one is_ascii_alphabetic (at tag.First) cs)
first_goes [] = refl
first_goes (c ∷ cs) = by (c == 45) refl
  where
    at_hyphen : (c : ℕ) → c ≡ 45 → at tag.First (c ∷ cs) ≡ (subtags (c ∷ cs) || one is_ascii_alphabetic (at tag.First) (c ∷ cs))
    at_hyphen c is = rw is (or_none (at tag.Hyphen cs))

    by : (b : Bool) → (c == 45) ≡ b → at tag.First (c ∷ cs) ≡ (subtags (c ∷ cs) || one is_ascii_alphabetic (at tag.First) (c ∷ cs))
    by true h = at_hyphen c (equal_from c 45 h)
    by false h = rw h (chosen (λ s. state.Tag s) tag.First cs (is_ascii_alphabetic c))

in_further : (cs : List ℕ) → at tag.Further cs ≡ many (one is_ascii_alphanumeric) subtags cs
in_further = many_is (one is_ascii_alphanumeric) (takes_one is_ascii_alphanumeric) subtags (at tag.Further) further_goes

in_first : (cs : List ℕ) → at tag.First cs ≡ many (one is_ascii_alphabetic) subtags cs
in_first = many_is (one is_ascii_alphabetic) (takes_one is_ascii_alphabetic) subtags (at tag.First) first_goes

hyphen_is : (cs : List ℕ) → at tag.Hyphen cs ≡ some (one is_ascii_alphanumeric) subtags cs
hyphen_is [] = refl
hyphen_is (c ∷ cs) =
    chosen (λ s. state.Tag s) tag.Further cs (is_ascii_alphanumeric c) ∙ ap (λ b. is_ascii_alphanumeric c && b) (in_further cs)

abbrev subtag : Form
subtag = text (45 ∷ []) before some (one is_ascii_alphanumeric)

subtags_goes : (cs : List ℕ) → subtags cs ≡ (ended cs || subtag subtags cs)
subtags_goes [] = refl
subtags_goes (c ∷ cs) = ap (λ b. (c == 45) && b) (hyphen_is cs)

takes_some : Takes (some (one is_ascii_alphanumeric))
takes_some =
    takes_before (one is_ascii_alphanumeric) (many (one is_ascii_alphanumeric)) (takes_one is_ascii_alphanumeric)
    (keeps_many (one is_ascii_alphanumeric) (keeps (one is_ascii_alphanumeric) (takes_one is_ascii_alphanumeric)))

subtags_are : (cs : List ℕ) → subtags cs ≡ many subtag ended cs
subtags_are =
    many_is subtag (takes_before (text (45 ∷ [])) (some (one is_ascii_alphanumeric)) (takes_text 45 []) (keeps (some (one is_ascii_alphanumeric)) takes_some))
    ended subtags subtags_goes

first_is : (cs : List ℕ) → at tag.First cs ≡ many (one is_ascii_alphabetic) (many subtag ended) cs
first_is cs =
    in_first cs
    ∙ (keeps_many (one is_ascii_alphabetic) (keeps (one is_ascii_alphabetic) (takes_one is_ascii_alphabetic))).on
    subtags (many subtag ended) cs (λ ds shorter. subtags_are ds)

at_is : (cs : List ℕ) → at tag.At cs ≡ some (one is_ascii_alphabetic) (many subtag ended) cs
at_is [] = refl
at_is (c ∷ cs) =
    chosen (λ s. state.Tag s) tag.First cs (is_ascii_alphabetic c) ∙ ap (λ b. is_ascii_alphabetic c && b) (first_is cs)

pub tag_form : (cs : List ℕ) → accepted kind.Tag cs ≡ form kind.Tag ended cs
tag_form [] = refl
tag_form (c ∷ cs) = chosen (λ s. state.Tag s) tag.At cs (c == 64) ∙ ap (λ b. (c == 64) && b) (at_is cs)

-- ---- symbols

abbrev sign_at : SymbolState → Test
sign_at s cs = from (state.Symbol s) cs

whole_is : (cs : List ℕ) → sign_at symbol.Whole cs ≡ ended cs
whole_is [] = refl
whole_is (c ∷ cs) = refl

-- a sign that has to stand behind the first, and those that may
needed : (cs : List ℕ) → sign_at symbol.Ampersand cs ≡ text (38 ∷ []) ended cs
needed [] = refl
needed (c ∷ cs) = chosen (λ s. state.Symbol s) symbol.Whole cs (c == 38) ∙ ap (λ b. (c == 38) && b) (whole_is cs)

bar_is : (cs : List ℕ) → sign_at symbol.Bar cs ≡ maybe (text (124 ∷ [])) ended cs
bar_is [] = refl
bar_is (c ∷ cs) = chosen (λ s. state.Symbol s) symbol.Whole cs (c == 124) ∙ ap (λ b. (c == 124) && b) (whole_is cs)

caret_is : (cs : List ℕ) → sign_at symbol.Caret cs ≡ maybe (text (94 ∷ [])) ended cs
caret_is [] = refl
caret_is (c ∷ cs) = chosen (λ s. state.Symbol s) symbol.Whole cs (c == 94) ∙ ap (λ b. (c == 94) && b) (whole_is cs)

equal_is : (cs : List ℕ) → sign_at symbol.BeforeEqual cs ≡ maybe (text (61 ∷ [])) ended cs
equal_is [] = refl
equal_is (c ∷ cs) = chosen (λ s. state.Symbol s) symbol.Whole cs (c == 61) ∙ ap (λ b. (c == 61) && b) (whole_is cs)

abbrev Sign : List ℕ → ℕ → Type 0
Sign cs c = accepted kind.Symbol (c ∷ cs) ≡ form kind.Symbol ended (c ∷ cs)

at_and : (cs : List ℕ) (c : ℕ) → c ≡ 38 → Sign cs c
at_and cs c is = rw is (needed cs ∙ or_none (text (38 ∷ []) ended cs))

at_bar : (cs : List ℕ) (c : ℕ) → c ≡ 124 → Sign cs c
at_bar cs c is = rw is (bar_is cs ∙ or_none (maybe (text (124 ∷ [])) ended cs))

at_caret : (cs : List ℕ) (c : ℕ) → c ≡ 94 → Sign cs c
at_caret cs c is = rw is (caret_is cs ∙ or_none (maybe (text (94 ∷ [])) ended cs))

at_before : (cs : List ℕ) (c : ℕ) → (c ≡ 33) → Sign cs c
at_before cs c is = rw is (equal_is cs)

at_less : (cs : List ℕ) (c : ℕ) → (c ≡ 60) → Sign cs c
at_less cs c is = rw is (equal_is cs)

at_more : (cs : List ℕ) (c : ℕ) → (c ≡ 62) → Sign cs c
at_more cs c is = rw is (equal_is cs)

by_sign : (cs : List ℕ) (c : ℕ) (a b d e f g : Bool) → (c == 38) ≡ a → (c == 124) ≡ b → (c == 94) ≡ d → (c == 33) ≡ e → (c == 60) ≡ f
    → (c == 62) ≡ g → Sign cs c
by_sign cs c true b d e f g ha hb hd he hf hg = at_and cs c (equal_from c 38 ha)
by_sign cs c false true d e f g ha hb hd he hf hg = at_bar cs c (equal_from c 124 hb)
by_sign cs c false false true e f g ha hb hd he hf hg = at_caret cs c (equal_from c 94 hd)
by_sign cs c false false false true f g ha hb hd he hf hg = at_before cs c (equal_from c 33 he)
by_sign cs c false false false false true g ha hb hd he hf hg = at_less cs c (equal_from c 60 hf)
by_sign cs c false false false false false true ha hb hd he hf hg = at_more cs c (equal_from c 62 hg)
by_sign cs c false false false false false false ha hb hd he hf hg =
    rw (ha, hb, hd, he, hf, hg)
    (chosen (λ s. state.Symbol s) symbol.Whole cs (is_single c) ∙ (ap (λ b. is_single c && b) (whole_is cs) ∙ or_none (is_single c && ended cs)))

pub symbol_form : (cs : List ℕ) → accepted kind.Symbol cs ≡ form kind.Symbol ended cs
symbol_form [] = refl
symbol_form (c ∷ cs) =
    by_sign cs c (c == 38) (c == 124) (c == 94) (c == 33) (c == 60) (c == 62) refl refl refl refl refl refl
