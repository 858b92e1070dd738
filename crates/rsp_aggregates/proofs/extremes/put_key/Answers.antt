use Rattle.std.proofs.Common.{ap, sym, ◌∙◌, ◌||◌}
use Rattle.std.specs.BTreeSet.{contains}
use Rattle.std.specs.Option.{option_eq}
use Rattle.std.specs.Prelude.{Some}
use Rattle.rsp_expr.specs.Order.{term_order}
use Rattle.rsp_terms.specs.Same.{term_eq}
use Rattle.rsp_aggregates.proofs.Keyed.{key-put}
use Rattle.rsp_aggregates.proofs.extremes.put_key.Goals as goal

pub returns-in_ok-insert-in-Some : goal.returns-in_ok-insert-in-Some
returns-in_ok-insert-in-Some c = λ term.
    key-put c.in_ok-key-in-Some.key term (contains term_order c.args.keys.now term) (contains term_order c.insert.new.self term)
    (c.in_ok-insert-in-Some.ensures.updates.0 term)
    ∙ ap (λ v. option_eq term_eq (Some term) v || contains term_order c.args.keys.now term)
    (ap Some (c.in_ok-key-in-Some.ensures ∙ c.in_ok-share-in-Some.ensures) ∙ sym c.in-Some.is)
