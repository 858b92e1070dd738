use Rattle.std.proofs.Common.{rules, lit<}
use Rattle.std.proofs.lemmas.Iterator.Search.{all_from_yields_List}
use Rattle.std.proofs.lemmas.Iterator.Splits.{YieldsList-from_str_split}
use Rattle.std.specs.Char.{is_ascii_alphanumeric}
use Rattle.rsp_terms.specs.Characters.{is_run_of}
use Rattle.rsp_terms.proofs.characters.are_further_subtags.Goals as goal

pub returns : goal.returns
returns c =
    let parts = YieldsList-from_str_split 0x2D c.args.text.now (lit< tt) c.split.ensures.text c.split.ensures.has_more c.split.ensures.pattern in
    all_from_yields_List (is_run_of is_ascii_alphanumeric) _ _ c.all.result c.all.ensures.ran parts (λ x b q k. search rules)
