use Rattle.rsp_events.proofs.FileLaws.{loaded_is}
use Rattle.rsp_events.proofs.loading.loaded.Goals as goal

pub returns : goal.returns
returns c = record { value = rw (loaded_is c.args.document c.args.bytes.now) c.lines_loaded.ensures }
