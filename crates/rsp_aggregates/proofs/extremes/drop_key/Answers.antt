use Rattle.std.proofs.Common.{ap, sym, ◌∙◌, ◌&&◌, not}
use Rattle.std.specs.BTreeSet.{contains}
use Rattle.std.specs.Option.{option_eq}
use Rattle.std.specs.Prelude.{Some}
use Rattle.rsp_expr.specs.Order.{term_order}
use Rattle.rsp_terms.specs.Same.{term_eq}
use Rattle.rsp_aggregates.proofs.Keyed.{key-dropped}
use Rattle.rsp_aggregates.proofs.extremes.drop_key.Goals as goal

pub returns-in_ok-key-in-Some : goal.returns-in_ok-key-in-Some
returns-in_ok-key-in-Some c = λ term.
    key-dropped c.in_ok-key-in-Some.key term (contains term_order c.args.keys.now term) (contains term_order c.remove.new.self term)
    (c.remove.ensures.updates.0 term)
    ∙ ap (λ v. not (option_eq term_eq (Some term) v) && contains term_order c.args.keys.now term)
    (ap Some (c.in_ok-key-in-Some.ensures ∙ c.in_ok-share-in-Some.ensures) ∙ sym c.in-Some.is)
