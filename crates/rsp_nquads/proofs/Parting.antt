-- A statement in two halves: its three parts, and what is behind them.
use Rattle.std.proofs.Common.{◌≡◌, ℕ, List, Option, Result, Ok, Err, refl}
use Rattle.rsp_nquads.specs.declared.statements.Part.{Part}
use Rattle.rsp_nquads.specs.declared.statements.Parts.{Parts}
use Rattle.rsp_nquads.specs.declared.statements.Three.{Three}
use Rattle.rsp_nquads.specs.Statements.{onward, parts_of}
use Rattle.rsp_nquads.specs.Results.{three_of, graph_to_end}

abbrev parts_with : Three → Option Part → Parts
parts_with three graph = record { subject = three.subject; predicate = three.predicate; object = three.object; graph = graph }

assoc : {A B C : Type 0} (r : Result A ℕ) (f : A → Result B ℕ) (g : B → Result C ℕ)
    → onward (onward r f) g ≡ onward r (λ x. onward (f x) g)
assoc (Ok x) f g = refl
assoc (Err left) f g = refl

pub parted : (document : ℕ) (line : List ℕ)
    → parts_of document line
    ≡ onward (three_of document line) (λ t. onward (graph_to_end document t.1) (λ graph. Ok (parts_with t.0 graph)))
unfolding parts_of
parted document line = simp assoc
