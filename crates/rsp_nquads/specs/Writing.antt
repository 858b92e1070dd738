-- Definitions: a quad as a line (RDF 1.1 N-Quads, section 2).
use Rattle.std.specs.Prelude.{◌≡◌, ℕ, Bool, true, false, Option, List, [], ◌∷◌, ◌++◌, codes}
use Rattle.std.specs.List.{cons_option, list_any}
use Rattle.std.specs.Option.{option_map_or}
use Rattle.rsp_terms.specs.declared.term.Term.{Term}
use Rattle.rsp_terms.specs.declared.term.Term.TheVariants.{Blank}
use Rattle.rsp_terms.specs.declared.statement.Quad.{Quad}
use Rattle.rsp_terms.specs.Terms.{term_text}

-- the graph, where one is named, behind a space
abbrev pub graph_text : Option Term → List ℕ
graph_text graph = option_map_or (λ name. codes " " ++ term_text name) graph []

-- the printed parts with one space between, and ` .`
abbrev pub line_of : Quad → List ℕ
line_of quad =
    term_text quad.triple.subject ++ (codes " " ++ (term_text quad.triple.predicate ++ (codes " " ++ (term_text quad.triple.object
    ++ (graph_text quad.graph ++ codes " .")))))

abbrev pub is_blank_node : Term → Bool
is_blank_node (Blank document label) = true
is_blank_node _ = false

-- no term of the quad is a blank node; a predicate never is
abbrev pub HasNoBlank : Quad → Type 0
HasNoBlank quad = list_any is_blank_node (quad.triple.subject ∷ quad.triple.object ∷ cons_option quad.graph []) ≡ false
