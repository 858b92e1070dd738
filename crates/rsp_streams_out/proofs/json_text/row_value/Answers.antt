use Rattle.std.proofs.Common.{sym, ap, ◌∙◌}
use Rattle.std.proofs.lemmas.Slice.Zip.{Zip-more, either_empty_from_Zip}
use Rattle.std.specs.Iterator.Adapters.{zip_first, zip_second}
use Rattle.std.specs.Slice.Iter.{iter_rest}
use Rattle.serde_json.specs.Data.{object}
use Rattle.serde_json.specs.View.{members_view}
use Rattle.serde_json.proofs.Views.{view-Object}
use Rattle.rsp_streams_out.specs.JsonParts.{with_cells}
use Rattle.rsp_streams_out.proofs.JsonData.{no_more}
use Rattle.rsp_streams_out.proofs.json_text.row_value.Goals as goal

pub loop-name-preserved : goal.loop-name-preserved
loop-name-preserved c =
    let more = Zip-more _ c.next.new.self _ (c.in-Some.name, c.in-Some.cell) c.in-Some.is c.next.ensures.steps in
    let before = c.loop-name.members in
    ap (with_cells (iter_rest (zip_first c.next.new.self)) (iter_rest (zip_second c.next.new.self))) c.in_ok-put_cell.ensures
    ∙ sym (λ i. with_cells (more.0 i) (more.1 i) (members_view before.entries)) ∙ c.loop-name.invariant

pub returns : goal.returns
returns c =
    let ended = either_empty_from_Zip _ c.next.new.self _ c.in-None.is c.next.ensures.steps in
    view-Object c.loop-name.members ∙ ap object (sym (no_more _ _ _ ended) ∙ c.loop-name.invariant)
