-- Words of the way: where the first fault of a line is, from its graph, its object and its predicate on: the parts of
-- `FaultFromSubject`, by name.
use Rattle.std.specs.Prelude.{ℕ}
use Rattle.rsp_nquads.specs.Grammar.{Fault, FaultHere, FaultIn, FaultFromDot, IsIriTerm, IsNode, IsObject}

abbrev pub FaultFromGraph : ℕ → Fault
FaultFromGraph document = FaultIn (IsNode document) FaultFromDot FaultFromDot

abbrev pub FaultFromObject : ℕ → Fault
FaultFromObject document = FaultIn (IsObject document) FaultHere (FaultFromGraph document)

abbrev pub FaultFromPredicate : ℕ → Fault
FaultFromPredicate document = FaultIn IsIriTerm FaultHere (FaultFromObject document)
