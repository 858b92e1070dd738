use Rattle.std.proofs.Common.{rules}
use Rattle.rsp_scope.proofs.Endings.{dropped}
use Rattle.rsp_scope.proofs.runs.drop_before.Goals as goal

pub returns : goal.returns
returns c f = dropped _ c.args.next _ (λ run b h left call. search rules) f _ _ c.retain_mut.ensures.filtered
