-- Words of the way: how far a text is read until no token goes on, and the fronts behind which no prefixed name begins.
use Rattle.std.specs.Prelude.{◌≡◌, ℕ, suc, ◌<◌, List, [], ◌∷◌, ◌++◌, length, take}
use Rattle.std.specs.Option.{option_map_or}
use Rattle.std.specs.Str.{encode_utf8_all, IsUtf8}
use Rattle.rsp_scan.specs.Machines.{Machine}
use Rattle.rsp_lex.specs.declared.token.TokenKind.TheVariants as kind
use Rattle.rsp_lex.specs.Forms.{front_bytes}

unfoldable pub reach : {S : Type 0} → Machine S → S → List ℕ → ℕ
reach m s [] = 0
reach m s (c ∷ cs) = option_map_or (λ t. suc (reach m t cs)) (m.step s c) 0

abbrev pub read_bytes : {S : Type 0} → Machine S → S → List ℕ → ℕ
read_bytes m s cs = length (encode_utf8_all (take (reach m s cs) cs))

-- behind each shorter front of the text
abbrev pub NoPrefixed : List ℕ → ℕ → Type 0
NoPrefixed text n =
    (front rest : List ℕ) → text ≡ front ++ rest → IsUtf8 front → length front < n → front_bytes kind.Prefixed rest ≡ 0
