-- What the code goes over as white space and comments is the longest front of that form.
use Rattle.std.proofs.Common.{◌≡◌, ℕ, suc, Bool, true, false, true≢false, List, [], ◌∷◌, refl, sym, ap, subst, ◌∙◌, if◌then◌else◌, Option, Some, None, take}
use Rattle.std.specs.Prelude.{◌==◌, ◌&&◌, ◌||◌, not}
use Rattle.std.specs.Option.{option_map_or}
use Rattle.rsp_spec.proofs.Truths.{equal_from}
use Rattle.rsp_scan.specs.Fronts.{longest_front}
use Rattle.rsp_scan.specs.Machines.{accepts}
use Rattle.rsp_scan.specs.Scans.{lengthened, scan}
use Rattle.rsp_scan.proofs.Longest.{longest_scanned}
use Rattle.rsp_lex.specs.Patterns.{Form, one, ◌before◌, ◌or◌, text, many, ended}
use Rattle.rsp_lex.specs.Forms.{gap, is_white}
use Rattle.rsp_lex.specs.Gaps.{gap_count, gap_machine, gap_step}
use Rattle.rsp_lex.proofs.PatternLaws.{Takes, keeps, takes_one, takes_or, takes_before, takes_text, keeps_many, many_is}
use Rattle.rsp_lex.proofs.Automata.{or_none}

abbrev at : Bool → List ℕ → Bool
at comment cs = accepts gap_machine comment cs

abbrev goes_on : ℕ → Bool
goes_on c = not (c == 10)

-- ---- what is a gap goes on in a comment too

abbrev behind : Bool → Bool → List ℕ → Bool
behind white sign cs = option_map_or (λ t. at t cs) (if white then Some false else (if sign then Some true else None)) false

past_sign : (white sign : Bool) (cs : List ℕ) → (at false cs ≡ true → at true cs ≡ true) → behind white sign cs ≡ true → at true cs ≡ true
past_sign true sign cs inside is = inside is
past_sign false true cs inside is = is
past_sign false false cs inside is = absurd (true≢false (sym is))

in_comment : (cs : List ℕ) → at false cs ≡ true → at true cs ≡ true
in_comment [] is = refl
in_comment (c ∷ cs) is = by (in_comment cs) (c == 10) refl
  where
    at_end : (c : ℕ) → c ≡ 10 → at false (c ∷ cs) ≡ true → at true (c ∷ cs) ≡ true
    at_end c end h = rw end (rw end at h)

    by : (at false cs ≡ true → at true cs ≡ true) → (b : Bool) → (c == 10) ≡ b → at true (c ∷ cs) ≡ true
    by inside true h = at_end c (equal_from c 10 h) is
    by inside false h = rw h (past_sign (is_white c) (c == 35) cs inside is)

-- ---- comments

either : (a b : Bool) → (a ≡ true → b ≡ true) → b ≡ (a || b)
either true b from = from refl
either false b from = refl

comment_goes : (cs : List ℕ) → at true cs ≡ (at false cs || one goes_on (at true) cs)
comment_goes [] = refl
comment_goes (c ∷ cs) = by (c == 10) refl
  where
    at_end : (c : ℕ) → c ≡ 10 → at true (c ∷ cs) ≡ (at false (c ∷ cs) || one goes_on (at true) (c ∷ cs))
    at_end c end = rw end (or_none (at false cs))

    by : (b : Bool) → (c == 10) ≡ b → at true (c ∷ cs) ≡ (at false (c ∷ cs) || one goes_on (at true) (c ∷ cs))
    by true h = at_end c (equal_from c 10 h)
    by false h =
        subst (λ x. at (not x) cs ≡ (at false (c ∷ cs) || (not x && at true cs))) (sym h)
        (either (at false (c ∷ cs)) (at true cs) (past_sign (is_white c) (c == 35) cs (in_comment cs)))

comment_is : (cs : List ℕ) → at true cs ≡ many (one goes_on) (at false) cs
comment_is = many_is (one goes_on) (takes_one goes_on) (at false) (at true) comment_goes

-- ---- white space and comments

abbrev piece : Form
piece = one is_white or (text (35 ∷ []) before many (one goes_on))

takes_piece : Takes piece
takes_piece =
    takes_or (one is_white) (text (35 ∷ []) before many (one goes_on)) (takes_one is_white)
    (takes_before (text (35 ∷ [])) (many (one goes_on)) (takes_text 35 []) (keeps_many (one goes_on) (keeps (one goes_on) (takes_one goes_on))))

chosen : (white sign : Bool) (cs : List ℕ) → (white ≡ true → sign ≡ false)
    → behind white sign cs ≡ ((white && at false cs) || (sign && at true cs))
chosen true true cs apart = absurd (true≢false (apart refl))
chosen true false cs apart = or_none (at false cs)
chosen false true cs apart = refl
chosen false false cs apart = refl

sign_is_not_white : (c : ℕ) → is_white c ≡ true → (c == 35) ≡ false
sign_is_not_white c white = by (c == 35) refl
  where
    by : (b : Bool) → (c == 35) ≡ b → (c == 35) ≡ false
    by true h = absurd (true≢false (sym (subst (λ d. is_white d ≡ true) (equal_from c 35 h) white)))
    by false h = h

piece_goes : (cs : List ℕ) → at false cs ≡ (ended cs || piece (at false) cs)
piece_goes [] = refl
piece_goes (c ∷ cs) =
    chosen (is_white c) (c == 35) cs (sign_is_not_white c)
    ∙ ap (λ b. (is_white c && at false cs) || ((c == 35) && b)) (comment_is cs)

gap_form : (cs : List ℕ) → gap ended cs ≡ at false cs
gap_form cs = sym (many_is piece takes_piece ended (at false) piece_goes cs)

-- ---- the longest front

one_longer : (n : ℕ) → lengthened true n ≡ suc n
one_longer n = by (n == 0)
  where
    by : (b : Bool) → (if b && false then 0 else suc n) ≡ suc n
    by true = refl
    by false = refl

counted : (comment : Bool) (cs : List ℕ) → scan gap_machine comment cs ≡ gap_count comment cs
unfolding scan
counted comment [] = refl
counted comment (c ∷ cs) = by (λ t. counted t cs) (gap_step comment c)
  where
    by : ((t : Bool) → scan gap_machine t cs ≡ gap_count t cs) → (o : Option Bool)
        → option_map_or (λ t. lengthened true (scan gap_machine t cs)) o 0 ≡ option_map_or (λ next. suc (gap_count next cs)) o 0
    by counts None = refl
    by counts (Some t) = one_longer (scan gap_machine t cs) ∙ ap (λ n. suc n) (counts t)

pub gap_front : (cs : List ℕ) → longest_front (gap ended) cs ≡ take (gap_count false cs) cs
gap_front cs = longest_scanned gap_machine false (gap ended) cs gap_form ∙ ap (λ n. take n cs) (counted false cs)
