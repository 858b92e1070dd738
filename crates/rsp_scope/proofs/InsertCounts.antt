-- How many quads are stored behind an insert.
use Rattle.std.proofs.Common.{◌≡◌, ℕ, suc, take, Option, None, Some, ◌+◌, ◌≤◌, ◌<◌, Bool, true, false, true≢false, cond, not, List, [], ◌∷◌, ◌++◌, length, refl, sym, ap, ◌∙◌, arith}
use Rattle.std.proofs.lemmas.List.{length-append}
use Rattle.std.proofs.lemmas.List.Folds.{list_any-append}
use Rattle.std.proofs.Math.Seq.{take-suc}
use Rattle.std.specs.Prelude.{◌||◌, if◌then◌else◌, slice_index_or}
use Rattle.std.specs.List.{list_any}
use Rattle.rsp_terms.specs.declared.term.Term.{Term}
use Rattle.rsp_terms.specs.declared.statement.Fact.{Fact}
use Rattle.rsp_terms.specs.declared.statement.Quad.{Quad}
use Rattle.rsp_terms.specs.Same.{fact_eq, fact_same, quad_eq, quad_same}
use Rattle.rsp_scope.specs.Quads.{fact_of, names, spot_of, store, stored_with}

pub more_stored : (facts : List Fact) (quads : List Quad) (quad : Quad) → stored_with facts (quads ++ quad ∷ []) ≡ store (stored_with facts quads) quad
more_stored facts [] quad = refl
more_stored facts (first ∷ quads) quad = more_stored (store facts first) quads quad

-- one quad more
pub length_store : (facts : List Fact) (quad : Quad)
    → length (store facts quad) ≡ length facts + cond (not (list_any (fact_eq (fact_of quad)) facts)) 1 0
length_store facts quad =
    elim (list_any (fact_eq (fact_of quad)) facts) as (λ b.
    length (cond b facts (facts ++ fact_of quad ∷ [])) ≡ length facts + cond (not b) 1 0) [
      | true ↦ omega arith
      | false ↦ length-append facts (fact_of quad ∷ [])
    ]

one_at_most : (b : Bool) → cond b 1 0 ≤ 1
one_at_most true = omega arith
one_at_most false = omega arith

pub most_stored : (facts : List Fact) (quads : List Quad) → length (stored_with facts quads) ≤ length facts + length quads
most_stored facts [] = omega arith
most_stored facts (quad ∷ quads) =
    let rest = most_stored (store facts quad) quads in
    let here = length_store facts quad in
    let one = one_at_most (not (list_any (fact_eq (fact_of quad)) facts)) in
    omega (arith, rest, here, one)

or_false : (b : Bool) → (b || false) ≡ b
or_false true = refl
or_false false = refl

or_assoc : (a b c : Bool) → ((a || b) || c) ≡ (a || (b || c))
or_assoc true b c = refl
or_assoc false b c = refl

any_store : (fact : Fact) (facts : List Fact) (quad : Quad)
    → list_any (fact_eq fact) (store facts quad) ≡ (list_any (fact_eq fact) facts || fact_eq fact (fact_of quad))
any_store fact facts quad = by (list_any (fact_eq (fact_of quad)) facts) refl
  where
    stays : (here is : Bool) → (is ≡ true → here ≡ true) → here ≡ (here || is)
    stays true is k = refl
    stays false true k = k refl
    stays false false k = refl

    by : (b : Bool) → list_any (fact_eq (fact_of quad)) facts ≡ b
        → list_any (fact_eq fact) (cond b facts (facts ++ fact_of quad ∷ [])) ≡ (list_any (fact_eq fact) facts || fact_eq fact (fact_of quad))
    by true stored =
        stays (list_any (fact_eq fact) facts) (fact_eq fact (fact_of quad))
        (λ is. ap (λ f. list_any (fact_eq f) facts) ((fact_same fact (fact_of quad)).0 is) ∙ stored)
    by false stored =
        list_any-append (fact_eq fact) facts (fact_of quad ∷ [])
        ∙ ap (λ b. list_any (fact_eq fact) facts || b) (or_false (fact_eq fact (fact_of quad)))

-- a fact is stored behind an insert where it was stored or is inserted
pub any_stored : (fact : Fact) (facts : List Fact) (quads : List Quad)
    → list_any (fact_eq fact) (stored_with facts quads) ≡ (list_any (fact_eq fact) facts || names quads fact)
any_stored fact facts [] = sym (or_false (list_any (fact_eq fact) facts))
any_stored fact facts (quad ∷ quads) =
    any_stored fact (store facts quad) quads
    ∙ (ap (λ b. b || names quads fact) (any_store fact facts quad)
    ∙ or_assoc (list_any (fact_eq fact) facts) (fact_eq fact (fact_of quad)) (names quads fact))

-- quads are the same where their facts are
graphs_same : (a b : Option Term) → spot_of a ≡ spot_of b → a ≡ b
graphs_same None None h = refl
graphs_same None (Some name) h = cc
graphs_same (Some name) None h = cc
graphs_same (Some name) (Some other) h = cc

quads_same : (a b : Quad) → fact_of a ≡ fact_of b → a ≡ b
quads_same a b h =
    let triples = ap (λ (f : Fact). f.triple) h in
    let graphs = graphs_same a.graph b.graph (ap (λ (f : Fact). f.spot) h) in
    λ i. record { triple = triples i; graph = graphs i }

pub same_test : (a b : Quad) → quad_eq a b ≡ fact_eq (fact_of a) (fact_of b)
same_test a b = by (quad_eq a b) (fact_eq (fact_of a) (fact_of b)) refl refl
  where
    by : (q f : Bool) → quad_eq a b ≡ q → fact_eq (fact_of a) (fact_of b) ≡ f → q ≡ f
    by true true qs fs = refl
    by false false qs fs = refl
    by true false qs fs = sym ((fact_same (fact_of a) (fact_of b)).1 (ap fact_of ((quad_same a b).0 qs))) ∙ fs
    by false true qs fs = sym qs ∙ (quad_same a b).1 (quads_same a b ((fact_same (fact_of a) (fact_of b)).0 fs))

-- one quad more is counted where it is new
pub counted_more : (facts : List Fact) (quads : List Quad) (i n : ℕ) (quad : Quad) → i < length quads → slice_index_or quads i quad ≡ quad
    → length (stored_with facts (take i quads)) ≡ length facts + n
    → length (stored_with facts (take (suc i) quads))
    ≡ length facts + (n + cond (not (list_any (fact_eq (fact_of quad)) (stored_with facts (take i quads)))) 1 0)
counted_more facts quads i n quad below at counted =
    let parts : take (suc i) quads ≡ take i quads ++ quad ∷ [] = take-suc quads i quad below ∙ ap (λ q. take i quads ++ q ∷ []) at in
    let whole : stored_with facts (take (suc i) quads) ≡ store (stored_with facts (take i quads)) quad =
    ap (stored_with facts) parts ∙ more_stored facts (take i quads) quad in
    let more = ap length whole in
    let one = length_store (stored_with facts (take i quads)) quad in
    omega (arith, more, one, counted)

-- new is what is neither stored nor inserted before
pub new_then : (stored among all : Bool) → all ≡ (stored || among) → stored ≡ false → not among ≡ not all
new_then true among all is h = cc
new_then false among all is h = ap not (sym is)

pub new_else : (stored among all : Bool) → all ≡ (stored || among) → stored ≡ true → not stored ≡ not all
new_else true among all is h = ap not (sym is)
new_else false among all is h = cc
