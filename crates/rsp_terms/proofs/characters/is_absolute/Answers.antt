use Rattle.std.proofs.Common.{◌≡◌, ◌∙◌, rules, sym, ap}
use Rattle.rsp_terms.specs.Characters.{is_absolute}
use Rattle.rsp_terms.proofs.Schemes.{same_scheme}
use Rattle.rsp_terms.proofs.characters.is_absolute.Goals as goal

pub returns-clause-characters : goal.returns-clause-characters
returns-clause-characters c =
    let bytes : c.as_bytes.result.now ≡ c.args.text.now = search rules in
    c.begins_with_scheme.ensures ∙ (ap is_absolute bytes ∙ sym (same_scheme c.args.text.now c.utf8.text))
