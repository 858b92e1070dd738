use Rattle.std.proofs.Common.{◌∙◌}
use Rattle.std.proofs.lemmas.Result.{IfOk-weaker}
use Rattle.rsp_algebra.specs.Meanings.{node_of}
use Rattle.rsp_variables.proofs.Told.{certain-told, possible-told}
use Rattle.rsp_variables.proofs.tree.binding_of.Goals as goal

pub returns-clause-certain : goal.returns-clause-certain
returns-clause-certain c =
    IfOk-weaker c.found_binding.result _ _ (λ found told. told.0 ∙ certain-told c.args.variable (node_of c.args.tree.now)) c.found_binding.ensures

pub returns-clause-possible : goal.returns-clause-possible
returns-clause-possible c =
    IfOk-weaker c.found_binding.result _ _ (λ found told. told.1 ∙ possible-told c.args.variable (node_of c.args.tree.now)) c.found_binding.ensures
