-- What stands behind the front of a text.
use Rattle.std.proofs.Common.{◌≡◌, ℕ, true, false, if◌then◌else◌, List, length, drop, Option, Some, None, MatchOption, nat_eq, subst, ap, ◌∙◌, Bor}
use Rattle.std.proofs.lemmas.Str.Pattern.{starts_text}
use Rattle.std.specs.List.{starts_with}
use Rattle.std.specs.Option.{option_map}
use Rattle.std.specs.Str.Pattern.{FindsTextPrefix, StripsPrefix}
use Rattle.rsp_words.specs.Words.{behind}

-- takes the clause of `strip_prefix` at a text
pub behind_is : (front text : List ℕ) (found : Option (Bor (List ℕ))) → MatchOption found (FindsTextPrefix front text None) (λ x. StripsPrefix (FindsTextPrefix front) text x.now) → option_map (λ x. x.now) found ≡ behind front text
behind_is front text None lacks =
    let is : false ≡ starts_with nat_eq text front = starts_text false front text lacks in
    ap (λ b. if b then Some (drop (length front) text) else None) is
behind_is front text (Some x) strips =
    let size = strips.1.0 in
    let found = subst (λ k. FindsTextPrefix front text (Some k)) size strips.1 in
    let is : true ≡ starts_with nat_eq text front = starts_text true front text (length front, found, strips.1.2) in
    ap Some (strips.2 ∙ ap (λ k. drop k text) size) ∙ ap (λ b. if b then Some (drop (length front) text) else None) is
