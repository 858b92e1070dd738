-- Words of the way: what the stream operators read and report, by counts.
use Rattle.std.specs.Prelude.{Bool, true, false, List, [], ℤ, ◌+ℤ◌, neg_ℤ, ◌≡◌, ◌≢◌}
use Rattle.rsp_multiset.specs.Rows.{Cells, row_eq}
use Rattle.rsp_multiset.specs.Weights.{times, above, Holds, IsChanged}
use Rattle.rsp_terms.specs.declared.term.Term.{Term}
use Rattle.rsp_terms.specs.Same.{term_eq}
use Rattle.rsp_report.specs.declared.operator.Operator.{Operator}
use Rattle.rsp_report.specs.declared.operator.Operator.TheVariants.{Rstream, Istream, Dstream}
use Rattle.rsp_streams_out.specs.declared.reading.Reading.{Reading}
use Rattle.rsp_streams_out.specs.declared.reading.Reading.TheVariants as reading
use Rattle.rsp_streams_out.specs.Rows.{in_order}
use Rattle.rsp_streams_out.specs.Streams.{reported}

-- how often xs holds q beyond how often ys does, and never below 0
abbrev pub excess : {E : Type 0} → (E → E → Bool) → List E → List E → E → ℤ
excess eq xs ys q = above (times eq xs q +ℤ neg_ℤ (times eq ys q))

-- how often the operator reports q: the same by counts
abbrev pub times_reported : Operator → List (Cells Term) → List (Cells Term) → Cells Term → ℤ
times_reported Rstream preceding present q = times (row_eq term_eq) present q
times_reported Istream preceding present q = excess (row_eq term_eq) present preceding q
times_reported Dstream preceding present q = excess (row_eq term_eq) preceding present q

-- what the operator reads stands for these rows: the solutions for those of now, or the change for what joins the two
abbrev pub StandsFor : Operator → List (Cells Term × ℤ) → List (Cells Term × ℤ) → List (Cells Term) → List (Cells Term) → Type 0
StandsFor Rstream change solutions preceding present = Holds (row_eq term_eq) solutions present
StandsFor Istream change solutions preceding present = IsChanged (row_eq term_eq) preceding change present
StandsFor Dstream change solutions preceding present = IsChanged (row_eq term_eq) preceding change present

-- what an operator reads gives its rows, where its query has told some before or hasn't: all solutions, where none of them is
-- left out; the change, where there is one; nothing, where no rows are to be given
abbrev pub Reads : Operator → Bool → Reading → Type 0
Reads operator told reading.Solutions = (preceding present : List (Cells Term)) → (told ≡ false → preceding ≡ [])
    → reported operator preceding present ≡ in_order present
Reads operator told reading.Change = (operator ≢ Rstream) × (told ≡ true)
Reads operator told reading.Nothing = (told ≡ false) × ((present : List (Cells Term)) → reported operator [] present ≡ [])
