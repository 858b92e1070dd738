-- Definitions: the text of a report: its head, the names of its variables, and its rows (SPARQL 1.1 Query Results TSV Format).
use Rattle.std.specs.Prelude.{ℕ, List, [], ◌∷◌, ◌++◌, length, map, codes}
use Rattle.std.specs.List.{join_with_byte}
use Rattle.std.specs.Fmt.{decimal}
use Rattle.std.specs.Str.{byte}
use Rattle.rsp_terms.specs.declared.term.Term.{Term}
use Rattle.rsp_multiset.specs.Rows.{Cells}
use Rattle.rsp_streams_out.specs.Rows.{row_text}

-- `# report NAME TIME ROWS`
abbrev pub report_head : List ℕ → ℕ → ℕ → List ℕ
report_head name at rows =
    codes "# report " ++ (name ++ (codes " " ++ (decimal at ++ (codes " " ++ (decimal rows ++ codes "\n")))))

-- each variable as `?name`, with tabs between
abbrev pub variables_line : List (List ℕ) → List ℕ
variables_line variables = join_with_byte (byte "\t") (map (λ name. byte "?" ∷ name) variables) ++ codes "\n"

-- a line for each row
abbrev pub rows_text : List (Cells Term) → List ℕ
rows_text [] = []
rows_text (row ∷ rows) = row_text row ++ (byte "\n" ∷ rows_text rows)

abbrev pub report_text : List ℕ → ℕ → List (List ℕ) → List (Cells Term) → List ℕ
report_text name at variables rows =
    report_head name at (length rows) ++ (variables_line variables ++ rows_text rows)

-- `# overfull NAME TIME`: the report of a query that has too many rows
abbrev pub overfull_text : List ℕ → ℕ → List ℕ
overfull_text name at = codes "# overfull " ++ (name ++ (codes " " ++ (decimal at ++ codes "\n")))
