-- Definitions: files of statements (RDF 1.1 N-Quads): what each line says, and what a file of stored quads holds.
use Rattle.std.specs.Prelude.{ℕ, Option, List, map}
use Rattle.std.specs.List.{filter_map}
use Rattle.std.specs.Option.{option_map}
use Rattle.rsp_nquads.specs.Answers.{Answer}
use Rattle.rsp_nquads.specs.Statements.{statement_of}
use Rattle.rsp_events.specs.declared.refused.LineRefused.{LineRefused}
use Rattle.rsp_events.specs.declared.refused.RefusedAs.{RefusedAs}
use Rattle.rsp_events.specs.declared.loading.LoadedQuads.{LoadedQuads}
use Rattle.rsp_events.specs.Contents.{fault_in, quad_in}
use Rattle.rsp_events.specs.Lines.{Line, log_lines, text_of}

-- what each line says, beside its number; lines are cut as those of the log
abbrev pub answers : ℕ → List ℕ → List (ℕ × Answer)
answers document bytes = map (λ (line : Line). (line.number, statement_of document (text_of line))) (log_lines bytes)

abbrev pub refused_at : ℕ → Option RefusedAs → Option LineRefused
refused_at number fault = option_map (λ why. record { line = number; fault = why }) fault

-- each statement is a quad, with or without a graph
abbrev pub loaded : ℕ → List ℕ → LoadedQuads
loaded document bytes =
    record {
      quads = filter_map (λ (x : ℕ × Answer). quad_in x.1) (answers document bytes);
      refused = filter_map (λ (x : ℕ × Answer). refused_at x.0 (fault_in x.1)) (answers document bytes);
    }
