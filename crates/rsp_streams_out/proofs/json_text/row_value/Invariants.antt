use Rattle.std.proofs.Common.{◌≡◌}
use Rattle.std.specs.Iterator.Adapters.{zip_first, zip_second}
use Rattle.std.specs.Slice.Iter.{iter_rest}
use Rattle.serde_json.specs.Data.{no_members}
use Rattle.serde_json.specs.View.{members_view}
use Rattle.rsp_streams_out.specs.JsonParts.{with_cells}
use Rattle.rsp_streams_out.proofs.json_text.row_value.Given as goal

abbrev pub invariant-loop-name : goal.invariant-loop-name
invariant-loop-name l =
    with_cells (iter_rest (zip_first l.name-iterator)) (iter_rest (zip_second l.name-iterator)) (members_view l.members.entries)
    ≡ with_cells l.variables l.row no_members
