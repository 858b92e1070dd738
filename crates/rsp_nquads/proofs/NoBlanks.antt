-- That no term of a quad is a blank node, as a test of a list and term by term.
use Rattle.std.proofs.Common.{◌≡◌, Bool, true, false, true≢false, refl, sym, Option, None, Some}
use Rattle.std.specs.Prelude.{◌||◌, List, [], ◌∷◌}
use Rattle.std.specs.List.{cons_option, list_any}
use Rattle.rsp_terms.specs.declared.term.Term.{Term}
use Rattle.rsp_terms.specs.declared.term.Term.TheVariants.{Iri, Blank, Literal, Tagged}
use Rattle.rsp_terms.specs.declared.statement.Quad.{Quad}
use Rattle.rsp_nquads.specs.Writing.{is_blank_node, HasNoBlank}
use Rattle.rsp_nquads.specs.Blanks.{IsNotBlank, IsNotBlankIn, AreNotBlank}

first_false : (a b : Bool) → (a || b) ≡ false → a ≡ false
first_false true b h = absurd (true≢false h)
first_false false b h = refl

second_false : (a b : Bool) → (a || b) ≡ false → b ≡ false
second_false true b h = absurd (true≢false h)
second_false false b h = h

both_false : (a b : Bool) → a ≡ false → b ≡ false → (a || b) ≡ false
both_false true b ha hb = absurd (true≢false ha)
both_false false b ha hb = hb

term_from : (term : Term) → is_blank_node term ≡ false → IsNotBlank term
term_from (Iri name) h = tt
term_from (Blank document label) h = absurd (true≢false h)
term_from (Literal lexical name) h = tt
term_from (Tagged lexical language) h = tt

term_to : (term : Term) → IsNotBlank term → is_blank_node term ≡ false
term_to (Iri name) h = refl
term_to (Blank document label) h = absurd h
term_to (Literal lexical name) h = refl
term_to (Tagged lexical language) h = refl

graph_from : (graph : Option Term) → list_any is_blank_node (cons_option graph []) ≡ false → IsNotBlankIn graph
graph_from None h = tt
graph_from (Some name) h = term_from name (first_false (is_blank_node name) false h)

graph_to : (graph : Option Term) → IsNotBlankIn graph → list_any is_blank_node (cons_option graph []) ≡ false
graph_to None h = refl
graph_to (Some name) h = both_false (is_blank_node name) false (term_to name h) refl

pub no_blank_from : (quad : Quad) → HasNoBlank quad → AreNotBlank quad
no_blank_from quad h =
    let s = is_blank_node quad.triple.subject in
    let o = is_blank_node quad.triple.object in
    let g = list_any is_blank_node (cons_option quad.graph []) in
    let behind = second_false s (o || g) h in (
      term_from quad.triple.subject (first_false s (o || g) h),
      term_from quad.triple.object (first_false o g behind),
      graph_from quad.graph (second_false o g behind),
    )

pub no_blank_to : (quad : Quad) → AreNotBlank quad → HasNoBlank quad
no_blank_to quad h =
    let s = is_blank_node quad.triple.subject in
    let o = is_blank_node quad.triple.object in
    let g = list_any is_blank_node (cons_option quad.graph []) in
    both_false s (o || g) (term_to quad.triple.subject h.0)
    (both_false o g (term_to quad.triple.object h.1) (graph_to quad.graph h.2))
