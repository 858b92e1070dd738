-- Words of the way: files of statements line by line.
use Rattle.std.specs.Prelude.{ℕ, Option, None, Some, List, [], ◌∷◌, map}
use Rattle.std.specs.List.{cons_option, flat_map}
use Rattle.rsp_terms.specs.declared.statement.Quad.{Quad}
use Rattle.rsp_nquads.specs.Answers.{Answer, nothing, statement, bad_statement, relative_iri}
use Rattle.rsp_nquads.specs.Statements.{statement_of}
use Rattle.rsp_events.specs.declared.refused.LineRefused.{LineRefused}
use Rattle.rsp_events.specs.declared.refused.RefusedAs.{RefusedAs}
use Rattle.rsp_events.specs.declared.refused.RefusedAs.TheVariants.{BadStatement, RelativeIri}
use Rattle.rsp_events.specs.declared.loading.LoadedQuads.{LoadedQuads}
use Rattle.rsp_events.specs.Contents.{quad_in}
use Rattle.rsp_events.specs.Lines.{Line, parts, lines_of_parts, text_of}

-- ---- lines

-- a line of a file: its number, from 1, and what it says without its line feed
pub record FileLine : Type 0 where
  pub number : ℕ
  pub text : List ℕ

abbrev pub file_line : Line → FileLine
file_line line = record { number = line.number; text = text_of line }

-- the lines of some bytes, cut as those of the log, of which the first has this number
abbrev pub lines_from : ℕ → List ℕ → List FileLine
lines_from number bytes = map file_line (lines_of_parts number (parts bytes))

abbrev pub file_lines : List ℕ → List FileLine
file_lines bytes = lines_from 1 bytes

-- a statement, nothing, or a fault with its column
abbrev pub said : ℕ → FileLine → Answer
said document line = statement_of document line.text

-- ---- refused lines

-- a line that says something and is no statement
abbrev pub no_statement : Answer → Option RefusedAs
no_statement nothing = None
no_statement (statement quad) = None
no_statement (bad_statement column) = Some (BadStatement column)
no_statement (relative_iri column) = Some (RelativeIri column)

abbrev pub refused_line : FileLine → Option RefusedAs → List LineRefused
refused_line line None = []
refused_line line (Some fault) = record { line = line.number; fault = fault } ∷ []

-- ---- stored quads

abbrev pub quads_in : Answer → List Quad
quads_in answer = cons_option (quad_in answer) []

-- each statement is a quad, with or without a graph
abbrev pub quads : ℕ → List FileLine → List Quad
quads document lines = flat_map (λ line. quads_in (said document line)) lines

abbrev pub refused_quads : ℕ → List FileLine → List LineRefused
refused_quads document lines = flat_map (λ line. refused_line line (no_statement (said document line))) lines

abbrev pub loaded_by : ℕ → List ℕ → LoadedQuads
loaded_by document bytes =
    record { quads = quads document (file_lines bytes); refused = refused_quads document (file_lines bytes) }
