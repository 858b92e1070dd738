use Rattle.std.proofs.Common.{◌∙◌, sym}
use Rattle.rsp_events.proofs.Parted.{name_ascii}
use Rattle.rsp_events.proofs.fields.name_of.Goals as goal

pub ascii_text-requires : goal.ascii_text-requires
ascii_text-requires c = name_ascii _ (sym c.is_name.ensures ∙ c.if-not-is_name.false)
