-- The longest token of a kind, as the automaton finds it, and the longest of all.
use Rattle.std.proofs.Common.{◌≡◌, ℕ, Bool, true, false, List, [], ◌∷◌, length, take, refl, sym, ◌∙◌, IsUtf8, chars, if◌then◌else◌}
use Rattle.std.specs.Prelude.{nat_lt}
use Rattle.std.specs.List.{fold}
use Rattle.std.specs.Str.{IsCharBoundary, encode_utf8_all}
use Rattle.std.proofs.lemmas.Str.{scalars-chars}
use Rattle.rsp_scan.specs.Fronts.{longest_front, longest_up_to}
use Rattle.rsp_scan.specs.Scans.{scanned_bytes}
use Rattle.rsp_scan.proofs.Fronts.{front_of, scalars-take}
use Rattle.rsp_scan.proofs.ScannedBytes.{bytes_of_front}
use Rattle.rsp_lex.specs.declared.token.TokenKind.{TokenKind}
use Rattle.rsp_lex.specs.declared.token.TokenKind.TheVariants as kind
use Rattle.rsp_lex.specs.declared.lexing.Front.{Front}
use Rattle.rsp_lex.specs.Forms.{is_token, front_bytes}
use Rattle.rsp_lex.specs.Kinds.{start, token_machine}
use Rattle.rsp_lex.proofs.FormLaws.{form_is}
use Rattle.rsp_lex.specs.Tokens.{longer, further_kinds, token_at}

pub front_is : (kind : TokenKind) (text : List ℕ) → front_bytes kind text ≡ scanned_bytes token_machine (start kind) (chars text)
unfolding front_bytes
front_is kind text =
    sym (λ i. length (encode_utf8_all (longest_front (λ cs. form_is kind cs i) (chars text))))
    ∙ bytes_of_front token_machine (start kind) text

front_boundary : (kind : TokenKind) (text : List ℕ) → IsUtf8 text → IsCharBoundary text (front_bytes kind text)
unfolding front_bytes
front_boundary kind text whole = (front_of (is_token kind) text whole).boundary

front_utf8 : (kind : TokenKind) (text : List ℕ) → IsUtf8 text → IsUtf8 (take (front_bytes kind text) text)
unfolding front_bytes
front_utf8 kind text whole =
    let front = (front_of (is_token kind) text whole).is in
    rw front (longest_front (is_token kind) (chars text), (scalars-take (longest_up_to (length (chars text)) (is_token kind) (chars text)) (chars text) (scalars-chars text whole), refl))

abbrev IsFrontOf : List ℕ → Front → Type 0
IsFrontOf text front = front.len ≡ front_bytes front.kind text

longer_is : (best : Front) (kind : TokenKind) (text : List ℕ) → IsFrontOf text best → IsFrontOf text (longer best kind text)
longer_is best kind text is = by (nat_lt best.len (front_bytes kind text))
  where
    by : (b : Bool) → IsFrontOf text (if b then record { kind = kind; len = front_bytes kind text } else best)
    by true = refl
    by false = is

among_is : (best : Front) (kinds : List TokenKind) (text : List ℕ) → IsFrontOf text best → IsFrontOf text (fold (λ best kind. longer best kind text) best kinds)
among_is best [] text is = is
among_is best (kind ∷ kinds) text is = among_is (longer best kind text) kinds text (longer_is best kind text is)

token_is : (text : List ℕ) → IsFrontOf text (token_at text)
unfolding token_at
token_is text = among_is (record { kind = kind.Iri; len = front_bytes kind.Iri text }) further_kinds text refl

pub token_boundary : (text : List ℕ) → IsUtf8 text → IsCharBoundary text (token_at text).len
token_boundary text whole = rw (token_is text) (front_boundary (token_at text).kind text whole)

pub token_utf8 : (text : List ℕ) → IsUtf8 text → IsUtf8 (take (token_at text).len text)
token_utf8 text whole = rw (token_is text) (front_utf8 (token_at text).kind text whole)
