use Rattle.std.proofs.Common.{◌+◌, sym, subst, ◌∙◌, ◌++◌, ◌+ℤ◌, arith}
use Rattle.std.proofs.lemmas.Result.{on_ok_weaker}
use Rattle.rsp_multiset.specs.Weights.{only, weight}
use Rattle.rsp_terms.specs.Same.{term_eq}
use Rattle.std.specs.Prelude.{Option}
use Rattle.rsp_folds.specs.Copies.{copies}
use Rattle.rsp_terms.specs.declared.term.Term.{Term}
use Rattle.rsp_aggregates.specs.Held.{HoldsValues}
use Rattle.rsp_aggregates.proofs.Holding.{room, error-taken, term-taken}
use Rattle.rsp_aggregates.proofs.copies.Copies.put.Goals as goal

pub overflow_add-self : goal.overflow_add-self
overflow_add-self c =
    let fits = room c.args.self.now.errors c.args.self.now.terms c.requires.0 c.args.times c.requires.1.0 c.requires.1.1 in
    omega (arith, fits)

pub returns-in-None : goal.returns-in-None
returns-in-None c = λ values holds few.
    subst (λ (v : Option Term). HoldsValues (c.args.self.now.errors + c.args.times) c.args.self.now.terms (copies c.args.times v ++ values)) (sym c.in-None.is)
    (error-taken c.args.self.now.errors c.args.self.now.terms values c.args.times holds few)

pub returns-in_ok-of_many-in-Some : goal.returns-in_ok-of_many-in-Some
returns-in_ok-of_many-in-Some c =
    on_ok_weaker c.add.result (λ changed values holds few.
    subst (λ (v : Option Term). HoldsValues c.args.self.now.errors c.add.new.self (copies c.args.times v ++ values)) (sym c.in-Some.is)
    (term-taken c.args.self.now.errors c.args.self.now.terms values c.args.times c.in-Some.term c.add.new.self
    (λ q. changed q
    ∙ (λ i. weight term_eq c.args.self.now.terms q +ℤ only (term_eq q (c.in_ok-share-in-Some.ensures i)) (c.in_ok-of_many-in-Some.ensures.1 i)))
    holds few))
    c.add.ensures.ok
