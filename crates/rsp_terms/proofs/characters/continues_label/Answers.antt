use Rattle.std.proofs.Common.{sym, ap, ◌∙◌}
use Rattle.std.proofs.lemmas.Str.{IsUtf8-past_char}
use Rattle.rsp_terms.proofs.CharacterSteps.{chars_of_empty, ends_label, label_later, label_broken}
use Rattle.rsp_terms.proofs.characters.continues_label.Goals as goal

pub returns-then-not-is_label_character : goal.returns-then-not-is_label_character
returns-then-not-is_label_character c =
    let held = c.loop-character.invariant in
    let fails = sym c.is_label_character.ensures ∙ c.if-not-is_label_character.true in
    sym (label_broken _ _ c.in-Some.character held.whole c.in-Some.ensures.steps.0 c.loop-character.last fails) ∙ held.same

pub loop-character-preserved : goal.loop-character-preserved
loop-character-preserved c =
    let held = c.loop-character.invariant in
    let parts = c.in-Some.ensures.steps.0 in
    let passes = sym c.is_label_character.ensures ∙ c.if-not-is_label_character.false in
    record {
      whole = IsUtf8-past_char _ _ c.in-Some.character held.whole parts;
      same = sym (label_later _ _ c.in-Some.character held.whole parts c.loop-character.last passes) ∙ held.same;
    }

pub returns : goal.returns
returns c =
    let none = chars_of_empty _ c.in-None.ensures.steps.0.0 in
    ap (ends_label c.loop-character.last) (sym none) ∙ c.loop-character.invariant.same
