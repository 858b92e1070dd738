-- Definitions: the stream operators: what a report gives of the rows of now and of those of the preceding report (RSP-QL:
-- RStream, IStream, DStream).
use Rattle.std.specs.Prelude.{Bool, List, fold, remove}
use Rattle.std.specs.List.{position_or_len}
use Rattle.rsp_multiset.specs.Rows.{Cells, row_eq}
use Rattle.rsp_terms.specs.declared.term.Term.{Term}
use Rattle.rsp_terms.specs.Same.{term_eq}
use Rattle.rsp_report.specs.declared.operator.Operator.{Operator}
use Rattle.rsp_report.specs.declared.operator.Operator.TheVariants.{Rstream, Istream, Dstream}
use Rattle.rsp_streams_out.specs.Rows.{in_order}

-- xs less ys, as multisets: each y takes the first of its value out of xs, if one is there
abbrev pub less : {E : Type 0} → (E → E → Bool) → List E → List E → List E
less eq xs ys = fold (λ left y. remove left (position_or_len (eq y) left)) xs ys

-- the rows that the operator reports: all of now, those that are new, those that are gone; in the byte order of their texts
abbrev pub reported : Operator → List (Cells Term) → List (Cells Term) → List (Cells Term)
reported Rstream preceding present = in_order present
reported Istream preceding present = in_order (less (row_eq term_eq) present preceding)
reported Dstream preceding present = in_order (less (row_eq term_eq) preceding present)
