use Rattle.std.proofs.Common.{rules, ◌+ℤ◌, ◌∙◌}
use Rattle.std.specs.Prelude.{⊤}
use Rattle.rsp_multiset.specs.Rows.{row_eq}
use Rattle.rsp_multiset.specs.Weights.{weight}
use Rattle.rsp_terms.specs.Same.{term_eq}
use Rattle.rsp_trials.proofs.Given.{may_both_be_given, stand-after}
use Rattle.rsp_trials.proofs.binary.BinaryTrial.change.Goals as goal

pub answer-requires-clause-given : goal.answer-requires-clause-given
answer-requires-clause-given g c =
    may_both_be_given
    (λ v. ⊤)
    (λ v. tt)
    (g.O.Binary.width c.self.inside.operator)
    (g.O.Binary.key c.self.inside.operator)
    (g.O.Binary.stands c.self.inside.operator c.self.inside.domain)
    c.self.inside.left.width
    c.self.inside.left.key.items
    c.self.inside.left.rows
    c.args.left.now
    c.take.new.self.rows
    c.self.inside.right.width
    c.self.inside.right.key.items
    c.self.inside.right.rows
    c.args.right.now
    c.take-2.new.self.rows
    (c.self.invariant (search rules))
    c.in_ok-check.ensures
    c.take.ensures.before
    c.take.ensures.after
    c.in_ok-take.ensures.rows
    c.in_ok-check-2.ensures
    c.take-2.ensures.before
    c.take-2.ensures.after
    c.in_ok-take-2.ensures.rows

pub invariant_of-self-2 : goal.invariant_of-self-2
invariant_of-self-2 g c = λ _.
    rw (c.take.ensures.width, c.take.ensures.key, c.take-2.ensures.width, c.take-2.ensures.key) (
    stand-after
    (λ v. ⊤)
    (λ v. tt)
    (g.O.Binary.width c.self.inside.operator)
    (g.O.Binary.key c.self.inside.operator)
    (g.O.Binary.stands c.self.inside.operator c.self.inside.domain)
    c.self.inside.left.width
    c.self.inside.left.key.items
    c.self.inside.left.rows
    c.args.left.now
    c.take.new.self.rows
    c.self.inside.right.width
    c.self.inside.right.key.items
    c.self.inside.right.rows
    c.args.right.now
    c.take-2.new.self.rows
    (g.O.Binary.width c.answer.new.operator)
    (g.O.Binary.key c.answer.new.operator)
    (g.O.Binary.stands c.answer.new.operator c.answer.new.domain)
    (c.self.invariant (search rules))
    c.in_ok-check.ensures
    c.take.ensures.before
    c.take.ensures.after
    c.in_ok-take.ensures.rows
    c.in_ok-check-2.ensures
    c.take-2.ensures.before
    c.take-2.ensures.after
    c.in_ok-take-2.ensures.rows
    c.answer.ensures.width
    c.answer.ensures.key
    (λ xs xs' ys ys' stands left_leads right_leads. c.in_ok-net.ensures.law xs xs' ys ys' stands left_leads right_leads))

pub returns-clause-answers : goal.returns-clause-answers
returns-clause-answers g c = λ q. c.in_ok-add_changes.ensures.sums q ∙ (λ i. weight (row_eq term_eq) (c.self.view_is i).1.1 q +ℤ weight (row_eq term_eq) c.in_ok-net.net q)
