-- Words of the way: what the calls that read a part answer, beside the readers, and the two halves of a statement.
use Rattle.std.specs.Prelude.{◌≡◌, ℕ, ⊤, List, Option, Ok, Err, Result}
use Rattle.rsp_terms.specs.declared.term.Term.{Term}
use Rattle.rsp_nquads.specs.declared.statements.Part.{Part}
use Rattle.rsp_nquads.specs.declared.statements.Three.{Three}
use Rattle.rsp_nquads.specs.declared.statements.Wanted.{Wanted}
use Rattle.rsp_nquads.specs.declared.statements.Wanted.TheVariants.{Node, Iri, Object}
use Rattle.rsp_nquads.specs.declared.statements.Halt.{Halt}
use Rattle.rsp_nquads.specs.declared.statements.Halt.TheVariants as halt
use Rattle.rsp_scan.specs.Readers.{PartReader}
use Rattle.rsp_nquads.specs.Parts.{iri_term, node, object}
use Rattle.rsp_nquads.specs.Statements.{part_of, optional_part, closes, onward}

abbrev pub reader : Wanted → ℕ → PartReader Term
reader Node document = node document
reader Iri document = iri_term
reader Object document = object document

-- nothing was read: so many bytes are left where a part was wanted, or memory was refused
abbrev pub Halts : {A : Type 0} → Halt → Result A ℕ → Type 0
Halts (halt.At left) reading = reading ≡ Err left
Halts halt.OutOfMemory reading = ⊤

-- subject, predicate and object, and what is left behind them
abbrev pub three_of : ℕ → List ℕ → Result (Three × List ℕ) ℕ
three_of document line =
    onward (part_of (node document) line) (λ s.
    onward (part_of iri_term s.1) (λ p.
    onward (part_of (object document) p.1) (λ o.
    Ok (record { subject = s.0; predicate = p.0; object = o.0 }, o.1))))

-- a graph where one is named, and the end
abbrev pub graph_to_end : ℕ → List ℕ → Result (Option Part) ℕ
graph_to_end document text =
    let g = optional_part (node document) text in
    onward (closes g.1) (λ _. Ok g.0)
