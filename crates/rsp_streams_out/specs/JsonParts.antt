-- Words of the way: the parts in which a report's JSON text is written.
use Rattle.std.specs.Prelude.{ℕ, List, ◌++◌, fold, map, zip, codes}
use Rattle.std.specs.Fmt.{decimal}
use Rattle.serde_json.specs.Data.{string, array, Items, Members}
use Rattle.serde_json.specs.View.{items_of}
use Rattle.serde_json.specs.Written.{compact_text}
use Rattle.rsp_terms.specs.declared.term.Term.{Term}
use Rattle.rsp_multiset.specs.Rows.{Cells}
use Rattle.rsp_streams_out.specs.Json.{row_data, with_cell}

-- up to the bracket that opens the rows
abbrev pub json_head : List ℕ → ℕ → List (List ℕ) → List ℕ
json_head name at variables =
    codes "{\"at\":" ++ (decimal at ++ (codes ",\"head\":{\"vars\":" ++ (compact_text (array (items_of (map string variables)))
    ++ (codes "},\"query\":" ++ (compact_text (string name) ++ codes ",\"results\":{\"bindings\":[")))))

-- with the bindings of the variables that have a cell
abbrev pub with_cells : List (List ℕ) → Cells Term → Members → Members
with_cells names row members = fold (λ members pair. with_cell members pair.0 pair.1) members (zip names row)

-- the rows, one by one
abbrev pub rows_items : List (List ℕ) → List (Cells Term) → Items
rows_items variables rows = items_of (map (row_data variables) rows)
