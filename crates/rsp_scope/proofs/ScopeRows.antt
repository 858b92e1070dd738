-- Worked rows: items under ends and new ends, and quads that are stored.
use Rattle.std.proofs.Common.{Option, ◌≡◌, ℕ, None, Some, List, [], ◌∷◌, refl}
use Rattle.rsp_terms.specs.declared.statement.Triple.{Triple}
use Rattle.rsp_terms.specs.declared.term.Term.{Term}
use Rattle.rsp_terms.specs.declared.term.Term.TheVariants.{Iri}
use Rattle.rsp_terms.specs.declared.statement.Quad.{Quad}
use Rattle.rsp_terms.specs.declared.statement.Fact.{Fact}
use Rattle.rsp_terms.specs.declared.statement.Spot.{Spot}
use Rattle.rsp_terms.specs.declared.statement.Spot.TheVariants.{Default, Named}
use Rattle.rsp_scope.specs.Quads.{stored_with, stored_without}
use Rattle.rsp_scope.specs.Kept.{Kept, needed, shortened, taken, triples_of}
use Rattle.rsp_scope.specs.declared.item.Item.{Item}

abbrev item : ℕ → List Triple → ℕ → Item
item number graph end = record { number = number; stream = 115 ∷ []; time = 5; graph = graph; end = end }

abbrev none : Kept
none = record { accepted = 0; items = [] }

abbrev triple : Triple
triple = record { subject = Iri (97 ∷ []); predicate = Iri (98 ∷ []); object = Iri (99 ∷ []) }

abbrev quad : Option Term → Quad
quad graph = record { triple = triple; graph = graph }

abbrev fact : Spot → Fact
fact spot = record { spot = spot; triple = triple }

-- without an end it isn't kept, and still has its number
unkept : taken none (115 ∷ []) 5 [] None ≡ record { accepted = 1; items = [] }
unkept = refl

second : (t : Triple) → taken (taken none (115 ∷ []) 5 [] None) (115 ∷ []) 5 (t ∷ []) (Some 10) ≡ record { accepted = 2; items = item 1 (t ∷ []) 10 ∷ [] }
second t = refl

-- an item is kept at its end, and not after it
at-end : needed 10 (item 0 [] 9 ∷ item 1 [] 10 ∷ []) ≡ item 1 [] 10 ∷ []
at-end = refl

-- a triple listed twice counts twice
listed : (t : Triple) → triples_of (item 0 (t ∷ t ∷ []) 9 ∷ item 1 (t ∷ []) 10 ∷ []) ≡ 3
listed t = refl

-- one item ends earlier, one leaves
lowered : shortened (item 0 [] 9 ∷ item 1 [] 10 ∷ []) (Some 8 ∷ None ∷ []) ≡ item 0 [] 8 ∷ []
lowered = refl

-- a quad twice in one call counts once, and the same triple in two graphs twice
doubled : stored_with [] (quad None ∷ quad None ∷ []) ≡ fact Default ∷ []
doubled = refl

graphs : stored_with (fact Default ∷ []) (quad (Some (Iri (97 ∷ []))) ∷ quad None ∷ []) ≡ fact Default ∷ fact (Named (Iri (97 ∷ []))) ∷ []
graphs = refl

-- a quad goes from its own graph alone, and one that isn't stored changes nothing
deleted : stored_without (fact Default ∷ fact (Named (Iri (97 ∷ []))) ∷ []) (quad None ∷ quad None ∷ []) ≡ fact (Named (Iri (97 ∷ []))) ∷ []
deleted = refl

absent : stored_without (fact Default ∷ []) (quad (Some (Iri (97 ∷ []))) ∷ []) ≡ fact Default ∷ []
absent = refl
