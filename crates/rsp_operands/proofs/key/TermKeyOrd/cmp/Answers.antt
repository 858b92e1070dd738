use Rattle.std.proofs.Common.{◌≡◌, ap, sym, ◌∙◌}
use Rattle.std.specs.Cmp.Lexicographic.{slice_cmp}
use Rattle.std.specs.Option.{option_cmp}
use Rattle.std.specs.Ordering.{nat_cmp, ordering_then}
use Rattle.rsp_number.specs.Numbers.{comparison}
use Rattle.rsp_operands.proofs.TermOrder.{ordered_by_keys}
use Rattle.rsp_operands.proofs.key.TermKeyOrd.cmp.Goals as goal

pub returns : goal.returns
returns c =
    rw (← c.self.view_is)
    (rw (← c.other.view_is)
    (let ranks = c.cmp-ranks.ensures ∙ (λ i. nat_cmp (c.self.invariant.rank i) (c.other.invariant.rank i)) in
    let numbers = c.compare_numbers-numbers.ensures ∙ (λ i. option_cmp comparison (c.self.invariant.number i) (c.other.invariant.number i)) in
    let texts = c.cmp-texts.ensures ∙ (λ i. slice_cmp nat_cmp (c.as_slice.ensures.value i) (c.as_slice-2.ensures.value i)) ∙ (λ i. slice_cmp nat_cmp (c.self.invariant.text i) (c.other.invariant.text i)) in
    c.then-2.ensures
    ∙ ((λ i. ordering_then (ranks i) (c.then.ensures i))
    ∙ ((λ i. ordering_then (nat_cmp (c.self.invariant.rank 1) (c.other.invariant.rank 1)) (ordering_then (numbers i) (texts i)))
    ∙ ordered_by_keys c.self.inside.term c.other.inside.term c.self.invariant.short c.other.invariant.short))))
