use Rattle.rsp_events.proofs.DirectiveLaws.{read_directive}
use Rattle.rsp_events.proofs.directives.directive_of.Goals as goal

pub returns : goal.returns
returns c = read_directive c.args.line.now _ _ c.first_field-word.ensures c.directive_read.ensures
