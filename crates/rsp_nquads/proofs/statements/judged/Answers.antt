use Rattle.std.proofs.Common.{◌∙◌, sym, ap}
use Rattle.rsp_nquads.specs.Statements.{first_relative, quad_of}
use Rattle.rsp_nquads.specs.Answers.{relative_iri, statement}
use Rattle.rsp_nquads.proofs.Judging.{judged_some, judged_none}
use Rattle.rsp_nquads.proofs.statements.judged.Goals as goal

pub returns-in-Some : goal.returns-in-Some
returns-in-Some c =
    judged_some c.args.line.now (quad_of c.args.parts) (first_relative c.args.parts) c.in-Some.left (sym c.relative_part.ensures ∙ c.in-Some.is)
    ∙ ap relative_iri (sym c.column.ensures)

pub returns-in-None : goal.returns-in-None
returns-in-None c =
    judged_none c.args.line.now (quad_of c.args.parts) (first_relative c.args.parts) (sym c.relative_part.ensures ∙ c.in-None.is)
    ∙ ap statement (sym c.quad_of.ensures)
