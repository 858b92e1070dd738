-- Trees over no facts at all.
use Rattle.std.proofs.Common.{◌≡◌, ℕ, false, ◌||◌, List, [], ◌∷◌, refl, ap, ◌∙◌}
use Rattle.std.specs.List.{fold}
use Rattle.rsp_algebra.specs.declared.tree.Place.{Place}
use Rattle.rsp_algebra.specs.declared.tree.TriplePattern.{TriplePattern}
use Rattle.rsp_algebra.specs.Nodes.{Node, pattern, join, project, left_deep, over, of_two}
use Rattle.rsp_algebra.specs.Solutions.{eval, joins}
use Rattle.rsp_algebra.specs.Overfull.{too_many, overfull}
use Rattle.rsp_algebra.proofs.Subtrees.{overfull-join, overfull-project}

-- a tree that has no rows and isn't overfull over no facts
record Empty (width : ℕ) (node : Node) : Type 0 where
  rows : eval width node [] ≡ []
  fits : overfull width node [] ≡ false

empty-joined : (width : ℕ) (node : Node) (place : Place) (triple : TriplePattern) → Empty width node → Empty width (of_two join node (pattern place triple))
empty-joined width node place triple empty =
    record {
      rows = ap (λ rows. joins rows []) empty.rows;
      fits = overfull-join width node (pattern place triple) []
          ∙ (λ i. too_many (joins (empty.rows i) []) || (empty.fits i || false));
    }

empty-folded : (width : ℕ) (place : Place) (node : Node) (others : List TriplePattern) → Empty width node → Empty width (fold (λ node triple. of_two join node (pattern place triple)) node others)
empty-folded width place node [] empty = empty
empty-folded width place node (triple ∷ others) empty =
    empty-folded width place (of_two join node (pattern place triple)) others (empty-joined width node place triple empty)

-- a basic graph pattern isn't overfull over no facts
pub no_facts-basic : (width : ℕ) (place : Place) (patterns : List TriplePattern) → overfull width (left_deep place patterns) [] ≡ false
no_facts-basic width place [] = refl
no_facts-basic width place (first ∷ others) =
    (empty-folded width place (pattern place first) others (record { rows = refl; fits = refl })).fits

-- nor is its projection
pub no_facts-project : (width : ℕ) (place : Place) (patterns : List TriplePattern) (variables : List ℕ) → overfull width (over (project variables) (left_deep place patterns)) [] ≡ false
no_facts-project width place patterns variables =
    overfull-project width (left_deep place patterns) variables [] ∙ no_facts-basic width place patterns
