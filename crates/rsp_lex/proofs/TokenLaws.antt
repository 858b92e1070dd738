-- The tokens of a text, token by token.
use Rattle.std.proofs.Common.{◌≡◌, ◌≢◌, ℕ, suc, ◌+◌, true, List, [], ◌∷◌, ◌++◌, length, drop, refl, sym, ap, ◌∙◌, arith, append_assoc, append-nil, Result, Ok, Err}
use Rattle.std.specs.Prelude.{◌==◌}
use Rattle.std.proofs.lemmas.Bool.Decides.{nat_tests}
use Rattle.rsp_spec.proofs.Truths.{differs}
use Rattle.rsp_lex.specs.declared.token.Token.{Token}
use Rattle.rsp_lex.specs.Tokens.{gap_bytes, token_at, before, tokens_from}

-- the tokens that stand before
abbrev pub onto : List Token → Result (List Token) ℕ → Result (List Token) ℕ
onto front (Ok tokens) = Ok (front ++ tokens)
onto front (Err at) = Err at

pub onto_none : (r : Result (List Token) ℕ) → onto [] r ≡ r
onto_none (Ok tokens) = refl
onto_none (Err at) = refl

onto_before : (front : List Token) (token : Token) (r : Result (List Token) ℕ) → onto front (before token r) ≡ onto (front ++ (token ∷ [])) r
onto_before front token (Ok tokens) = ap (λ ts. Ok ts) (sym (append_assoc front (token ∷ []) tokens))
onto_before front token (Err at) = refl

abbrev pub token_behind : ℕ → List ℕ → Token
token_behind place text = record {
  kind = (token_at (drop (gap_bytes text) text)).kind;
  start = place + gap_bytes text;
  end = place + gap_bytes text + (token_at (drop (gap_bytes text) text)).len;
}

is_zero : (n : ℕ) → n ≡ 0 → (n == 0) ≡ true
is_zero n is = grind (arith, nat_tests)

module _ (front : List Token) (most less place : ℕ) (text : List ℕ) (goal : Result (List Token) ℕ) (some : most ≡ suc less)
    (all : onto front (tokens_from most place text) ≡ goal) where
  now : onto front (tokens_from (suc less) place text) ≡ goal
  now = ap (λ n. onto front (tokens_from n place text)) (sym some) ∙ all

  pub tokens_end : length (drop (gap_bytes text) text) ≡ 0 → goal ≡ Ok front
  unfolding tokens_from
  tokens_end none =
      sym now ∙ rw (is_zero (length (drop (gap_bytes text) text)) none) (ap (λ ts. Ok ts) (append-nil front))

  pub tokens_stop : length (drop (gap_bytes text) text) ≢ 0 → (token_at (drop (gap_bytes text) text)).len ≡ 0 → goal ≡ Err (place + gap_bytes text)
  unfolding tokens_from
  tokens_stop some_left none =
      sym now ∙ rw (differs (length (drop (gap_bytes text) text)) 0 some_left, is_zero (token_at (drop (gap_bytes text) text)).len none) refl

  pub tokens_go : length (drop (gap_bytes text) text) ≢ 0 → (token_at (drop (gap_bytes text) text)).len ≢ 0
      → onto (front ++ (token_behind place text ∷ []))
      (tokens_from less (place + gap_bytes text + (token_at (drop (gap_bytes text) text)).len)
      (drop (token_at (drop (gap_bytes text) text)).len (drop (gap_bytes text) text))) ≡ goal
  unfolding tokens_from
  tokens_go some_left some_token =
      sym (onto_before front (token_behind place text) _)
      ∙ (rw (differs (length (drop (gap_bytes text) text)) 0 some_left, differs (token_at (drop (gap_bytes text) text)).len 0 some_token) at now)

pub tokens_past : (front : List Token) (most place : ℕ) (text : List ℕ) (goal : Result (List Token) ℕ) → most ≡ 0
    → onto front (tokens_from most place text) ≡ goal → goal ≡ Err place
unfolding tokens_from
tokens_past front most place text goal none all = sym all ∙ rw none refl
