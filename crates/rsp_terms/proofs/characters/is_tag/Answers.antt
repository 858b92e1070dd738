use Rattle.std.proofs.Common.{Some, None, sym, ◌∙◌, arith}
use Rattle.std.proofs.lemmas.Str.Pattern.{split_parts}
use Rattle.rsp_terms.proofs.CharacterSteps.{only_letters, further_subtags, no_letters}
use Rattle.rsp_terms.proofs.characters.is_tag.Goals as goal

pub returns-in-None : goal.returns-in-None
returns-in-None c =
    let lacks = split_parts 45 c.args.text.now None c.in-None.ensures.cases (omega arith) in
    c.are_letters.ensures ∙ sym (only_letters _ lacks)

pub returns-then-are_letters : goal.returns-then-are_letters
returns-then-are_letters c =
    let parts = split_parts 45 c.args.text.now (Some (c.in-Some.first, c.in-Some.others)) c.in-Some.ensures.cases (omega arith) in
    let letters = sym c.are_letters-in-Some.ensures ∙ c.if-are_letters.true in
    c.are_further_subtags.ensures ∙ sym (further_subtags _ _ _ parts.0 parts.1 letters)

pub returns-else-are_letters : goal.returns-else-are_letters
returns-else-are_letters c =
    let parts = split_parts 45 c.args.text.now (Some (c.in-Some.first, c.in-Some.others)) c.in-Some.ensures.cases (omega arith) in
    let fails = sym c.are_letters-in-Some.ensures ∙ c.if-are_letters.false in
    c.if-are_letters.false ∙ sym (no_letters _ _ _ parts.0 parts.1 fails)
