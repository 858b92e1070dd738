use Rattle.std.proofs.lemmas.Result.{IfOk-weaker}
use Rattle.rsp_groups.proofs.Turning.{extended-shown, extended-is_row}
use Rattle.rsp_groups.proofs.rows.extended_row.Goals as goal

pub returns-clause-shown : goal.returns-clause-shown
returns-clause-shown g c =
    IfOk-weaker c.extended.result _ _
    (λ made is.
    extended-shown (g.D.Domain.knows c.args.domain.now) (g.D.Domain.knows c.keep_value.new.domain) (g.D.Domain.shown c.args.domain.now) (g.D.Domain.shown c.keep_value.new.domain)
    c.keep_value.ensures.known c.args.width c.args.variable c.in_ok-value.value c.args.term.now c.args.row.now made c.requires.known is c.in_ok-value.ensures.value)
    c.extended.ensures

pub returns-clause-row : goal.returns-clause-row
returns-clause-row g c =
    IfOk-weaker c.extended.result _ _
    (λ made is.
    extended-is_row (g.D.Domain.knows c.args.domain.now) (g.D.Domain.knows c.keep_value.new.domain) (g.D.Domain.shown c.args.domain.now) (g.D.Domain.shown c.keep_value.new.domain)
    c.keep_value.ensures.known c.args.width c.args.variable c.in_ok-value.value c.args.row.now made c.requires.known is c.in_ok-value.ensures.knows)
    c.extended.ensures
