use Rattle.std.proofs.Common.{map, subst}
use Rattle.rsp_written.specs.Gives.{Gives}
use Rattle.rsp_written.specs.GroupMeanings.{element_of}
use Rattle.rsp_read_queries.proofs.Together.{group_is}
use Rattle.rsp_read_queries.proofs.groups.group.Goals as goal

pub returns : goal.returns
returns c =
    subst (λ read. Gives (λ x. (map element_of x.0.items, x.1.now)) c.group_at.result read) (group_is c.args.tokens.now) c.group_at.ensures
