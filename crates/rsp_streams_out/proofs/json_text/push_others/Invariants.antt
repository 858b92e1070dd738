use Rattle.std.proofs.Common.{◌≡◌, ◌++◌, List, ℕ, true, drop}
use Rattle.serde_json.specs.Written.{items_text}
use Rattle.rsp_streams_out.specs.JsonParts.{rows_items}
use Rattle.rsp_streams_out.proofs.json_text.push_others.Given as goal

abbrev pub invariant-loop-row : goal.invariant-loop-row
invariant-loop-row l = record {
  text : l.out.items ++ items_text true (rows_items l.variables (drop l.row-index l.rows))
      ≡ l.fn.out.items ++ items_text true (rows_items l.variables l.rows);
  begun : (rest : List ℕ) × (l.out.items ≡ l.fn.out.items ++ rest);
}
