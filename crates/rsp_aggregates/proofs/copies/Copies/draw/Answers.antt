use Rattle.std.proofs.Common.{subst, ◌++◌, ◌∙◌, ◌+ℤ◌, neg_ℤ}
use Rattle.std.proofs.lemmas.Result.{on_ok_weaker}
use Rattle.rsp_multiset.specs.Weights.{only, weight}
use Rattle.rsp_terms.specs.Same.{term_eq}
use Rattle.std.specs.Prelude.{Option}
use Rattle.rsp_folds.specs.Copies.{copies}
use Rattle.rsp_terms.specs.declared.term.Term.{Term}
use Rattle.rsp_aggregates.specs.Held.{HoldsValues}
use Rattle.rsp_aggregates.proofs.Holding.{enough, error-given, term-given}
use Rattle.rsp_aggregates.proofs.copies.Copies.draw.Goals as goal

pub overflow_sub-self : goal.overflow_sub-self
overflow_sub-self c =
    enough c.args.self.now.errors c.args.self.now.terms c.requires.0 c.args.times
    (subst (λ (v : Option Term). HoldsValues c.args.self.now.errors c.args.self.now.terms (copies c.args.times v ++ c.requires.0)) c.in-None.is c.requires.1)

pub returns-in-None : goal.returns-in-None
returns-in-None c = λ values holds.
    error-given c.args.self.now.errors c.args.self.now.terms values c.args.times
    (subst (λ (v : Option Term). HoldsValues c.args.self.now.errors c.args.self.now.terms (copies c.args.times v ++ values)) c.in-None.is holds)

pub returns-in_ok-share-in-Some : goal.returns-in_ok-share-in-Some
returns-in_ok-share-in-Some c =
    on_ok_weaker c.add.result (λ changed values holds.
    term-given c.args.self.now.errors c.args.self.now.terms values c.args.times c.in-Some.term c.add.new.self
    (λ q. changed q
    ∙ ((λ i. weight term_eq c.args.self.now.terms q +ℤ only (term_eq q (c.in_ok-share-in-Some.ensures i)) (c.opposite.ensures i))
    ∙ (λ i. weight term_eq c.args.self.now.terms q +ℤ only (term_eq q c.in-Some.term) (neg_ℤ (c.in_ok-count-in-Some.ensures.1 i)))))
    (subst (λ (v : Option Term). HoldsValues c.args.self.now.errors c.args.self.now.terms (copies c.args.times v ++ values)) c.in-Some.is holds))
    c.add.ensures.ok
