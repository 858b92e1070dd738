-- Worked rows: what a window of 10 ms every 5 ms sees.
use Rattle.std.proofs.Common.{◌≡◌, ℕ, Some, None, [], ◌∷◌, refl}
use Rattle.rsp_terms.specs.declared.statement.Triple.{Triple}
use Rattle.rsp_terms.specs.declared.term.Term.TheVariants.{Iri}
use Rattle.rsp_terms.specs.declared.statement.Spot.TheVariants.{Window}
use Rattle.rsp_scope.specs.Contents.{Accepted, Watch, content, numbered, window_facts}

abbrev triple : Triple
triple = record { subject = Iri (97 ∷ []); predicate = Iri (98 ∷ []); object = Iri (99 ∷ []) }

abbrev watch : ℕ → Watch
watch first = record { shape = record { width = 10; slide = 5; origin = 0 }; spot = 2; stream = 115 ∷ []; first = first }

abbrev came : ℕ → Accepted
came time = record { stream = 115 ∷ []; time = time; graph = triple ∷ [] }

-- at 11 the window from 5 on is active: its opening isn't in it, and what comes after 11 isn't yet
opened : content (watch 0) 11 (numbered 0 (came 5 ∷ came 6 ∷ came 12 ∷ [])) ≡ record { number = 1; item = came 6 } ∷ []
opened = refl

-- in whatever order the items came; those before the first aren't seen
late : content (watch 1) 11 (numbered 0 (came 7 ∷ came 12 ∷ came 6 ∷ [])) ≡ record { number = 2; item = came 6 } ∷ []
late = refl

-- nor are those of another stream
other : content (watch 0) 11 (numbered 0 (record { stream = 116 ∷ []; time = 7; graph = [] } ∷ [])) ≡ []
other = refl

-- a triple of two items is one fact of the window's graph, until the second leaves
shared : window_facts (watch 0) (Some 10) (came 3 ∷ came 6 ∷ []) ≡ record { spot = Window 2; triple = triple } ∷ []
shared = refl

still : window_facts (watch 0) (Some 14) (came 3 ∷ came 6 ∷ []) ≡ record { spot = Window 2; triple = triple } ∷ []
still = refl

gone : window_facts (watch 0) (Some 16) (came 3 ∷ came 6 ∷ came 17 ∷ []) ≡ []
gone = refl

before : window_facts (watch 0) None (came 3 ∷ []) ≡ []
before = refl
