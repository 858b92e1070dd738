use Rattle.std.proofs.Common.{sym, ◌∙◌, arith, rules}
use Rattle.std.proofs.lemmas.Iterator.Adapters.{YieldsList-from_bytes}
use Rattle.std.proofs.lemmas.Iterator.Search.{all_from_yields_List}
use Rattle.std.specs.Char.{is_ascii_alphabetic}
use Rattle.rsp_terms.proofs.CharacterSteps.{one_or_more}
use Rattle.rsp_terms.proofs.characters.are_letters.Goals as goal

pub returns-then-not-is_empty : goal.returns-then-not-is_empty
returns-then-not-is_empty c =
    let all = all_from_yields_List is_ascii_alphabetic _ _ c.all.result c.all.ensures.ran (YieldsList-from_bytes c.args.part.now c.bytes.ensures.rest) (λ x b q k. search rules) in
    all ∙ sym (one_or_more _ c.args.part.now (grind arith))
