-- Any bound past a text's length gives the same tokens: a text has no more of them than bytes.
use Rattle.std.proofs.Common.{◌≡◌, ℕ, zero, suc, ◌+◌, ◌<◌, Bool, true, false, List, [], length, drop, refl, sym, ap, ◌∙◌, arith, length-drop, Result, Ok, Err, if◌then◌else◌}
use Rattle.std.specs.Prelude.{◌==◌}
use Rattle.std.proofs.lemmas.Bool.Decides.{nat_tests}
use Rattle.rsp_lex.specs.declared.token.Token.{Token}
use Rattle.rsp_lex.specs.Tokens.{gap_bytes, token_at, before, tokens_from}
use Rattle.rsp_lex.proofs.TokenLaws.{token_behind}

abbrev rest_of : List ℕ → List ℕ
rest_of text = drop (token_at (drop (gap_bytes text) text)).len (drop (gap_bytes text) text)

abbrev turn : ℕ → ℕ → List ℕ → Result (List Token) ℕ
turn most place text =
    if length (drop (gap_bytes text) text) == 0 then Ok []
    else (if (token_at (drop (gap_bytes text) text)).len == 0 then Err (place + gap_bytes text)
    else before (token_behind place text) (tokens_from most (place + gap_bytes text + (token_at (drop (gap_bytes text) text)).len) (rest_of text)))

turn_is : (most place : ℕ) (text : List ℕ) → tokens_from (suc most) place text ≡ turn most place text
unfolding tokens_from
turn_is most place text = refl

some : (n : ℕ) → (n == 0) ≡ false → 0 < n
some n h = grind (arith, nat_tests)

shorter : (text : List ℕ) → (length (drop (gap_bytes text) text) == 0) ≡ false → ((token_at (drop (gap_bytes text) text)).len == 0) ≡ false
    → length (rest_of text) < length text
shorter text left token =
    let gap = length-drop (gap_bytes text) text in
    let all = length-drop (token_at (drop (gap_bytes text) text)).len (drop (gap_bytes text) text) in
    let one = some (length (drop (gap_bytes text) text)) left in
    let two = some (token_at (drop (gap_bytes text) text)).len token in
    omega arith

pub enough : (more most place : ℕ) (text : List ℕ) → length text < most → length text < more → tokens_from more place text ≡ tokens_from most place text
enough zero most place text within other = absurd (omega arith)
enough (suc more) zero place text within other = absurd (omega arith)
enough (suc more) (suc most) place text within other =
    turn_is more place text ∙ (by (length (drop (gap_bytes text) text) == 0) refl ((token_at (drop (gap_bytes text) text)).len == 0) refl
    (enough more most (place + gap_bytes text + (token_at (drop (gap_bytes text) text)).len) (rest_of text)) ∙ sym (turn_is most place text))
  where
    by : (a : Bool) → (length (drop (gap_bytes text) text) == 0) ≡ a → (b : Bool) → ((token_at (drop (gap_bytes text) text)).len == 0) ≡ b
        → (length (rest_of text) < most → length (rest_of text) < more
        → tokens_from more (place + gap_bytes text + (token_at (drop (gap_bytes text) text)).len) (rest_of text)
        ≡ tokens_from most (place + gap_bytes text + (token_at (drop (gap_bytes text) text)).len) (rest_of text))
        → (if a then Ok [] else (if b then Err (place + gap_bytes text)
        else before (token_behind place text) (tokens_from more (place + gap_bytes text + (token_at (drop (gap_bytes text) text)).len) (rest_of text))))
        ≡ (if a then Ok [] else (if b then Err (place + gap_bytes text)
        else before (token_behind place text) (tokens_from most (place + gap_bytes text + (token_at (drop (gap_bytes text) text)).len) (rest_of text))))
    by true ha b hb again = refl
    by false ha true hb again = refl
    by false ha false hb again =
        let less = shorter text ha hb in
        ap (before (token_behind place text)) (again (omega arith) (omega arith))
