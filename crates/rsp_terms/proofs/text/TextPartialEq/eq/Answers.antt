use Rattle.std.proofs.Common.{sym, ap, ◌∙◌}
use Rattle.rsp_terms.specs.TextNumbers.{text_number}
use Rattle.rsp_terms.proofs.Numbered.{numbers-differ}
use Rattle.rsp_terms.proofs.text.TextPartialEq.eq.Goals as goal

pub returns-then-self-other : goal.returns-then-self-other
returns-then-self-other c =
    let mine = c.self.invariant ∙ ap text_number c.self.view_is in
    let others = c.other.invariant ∙ ap text_number c.other.view_is in
    sym (numbers-differ c.args.self.now c.args.other.now (λ same. c.if-self-other.true (mine ∙ same ∙ sym others)))
