use Rattle.std.proofs.Common.{rules, ◌+ℤ◌, ◌∙◌}
use Rattle.std.specs.Prelude.{⊤}
use Rattle.rsp_multiset.specs.Rows.{row_eq}
use Rattle.rsp_multiset.specs.Weights.{weight}
use Rattle.rsp_terms.specs.Same.{term_eq}
use Rattle.rsp_trials.proofs.Given.{may_be_given, stands-after}
use Rattle.rsp_trials.proofs.unary.UnaryTrial.change.Goals as goal

pub apply-requires : goal.apply-requires
apply-requires g c =
    may_be_given
    (λ v. ⊤)
    (λ v. tt)
    (g.O.Unary.width c.self.inside.operator)
    (g.O.Unary.key c.self.inside.operator)
    (g.O.Unary.stands c.self.inside.operator c.self.inside.domain)
    c.self.inside.side.width
    c.self.inside.side.key.items
    c.self.inside.side.rows
    c.args.change.now
    c.take.new.self.rows
    (c.self.invariant (search rules))
    c.in_ok-check.ensures
    c.take.ensures.before
    c.take.ensures.after
    c.in_ok-take.ensures.rows

pub invariant_of-self-2 : goal.invariant_of-self-2
invariant_of-self-2 g c = λ _.
    rw (c.take.ensures.width, c.take.ensures.key) (
    stands-after
    (λ v. ⊤)
    (λ v. tt)
    (g.O.Unary.width c.self.inside.operator)
    (g.O.Unary.key c.self.inside.operator)
    (g.O.Unary.stands c.self.inside.operator c.self.inside.domain)
    c.self.inside.side.width
    c.self.inside.side.key.items
    c.self.inside.side.rows
    c.args.change.now
    c.take.new.self.rows
    (g.O.Unary.width c.apply.new.self)
    (g.O.Unary.key c.apply.new.self)
    (g.O.Unary.stands c.apply.new.self c.apply.new.domain)
    (c.self.invariant (search rules))
    c.in_ok-check.ensures
    c.take.ensures.before
    c.take.ensures.after
    c.in_ok-take.ensures.rows
    c.apply.ensures.width
    c.apply.ensures.key
    (λ xs ys stands leads. (c.in_ok-net.ensures.law xs ys stands leads).0))

pub returns-clause-answers : goal.returns-clause-answers
returns-clause-answers g c = λ q. c.in_ok-add_changes.ensures.sums q ∙ (λ i. weight (row_eq term_eq) (c.self.view_is i).1 q +ℤ weight (row_eq term_eq) c.in_ok-net.net q)
