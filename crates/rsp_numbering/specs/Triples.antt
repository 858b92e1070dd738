-- Definitions: triples with numbers in place of names, in the order of SPARQL 1.1 Query, section 4.1.4: a triple is made where
-- its object begins, and the triples of an object in brackets follow it; those of a subject in brackets come before its own.
use Rattle.std.specs.Prelude.{List, [], ◌∷◌, ◌++◌}
use Rattle.rsp_terms.specs.declared.term.Term.TheVariants as term
use Rattle.rsp_expr.specs.declared.slot.Slot.{Slot}
use Rattle.rsp_expr.specs.declared.slot.Slot.TheVariants as slot
use Rattle.rsp_query.specs.Paths.{Way, ways_in}
use Rattle.rsp_query.specs.Paths as path
use Rattle.rsp_query.specs.Groups.{Part, triple}
use Rattle.rsp_written.specs.Trees as written
use Rattle.rsp_written.specs.Trees.{Verb, named, along, Node, variable_node, iri_node, constant_node, label_node, blank_node}
use Rattle.rsp_written.specs.Trees.{described, Nodes, no_node, node_then, Properties, no_property, property_then}
use Rattle.rsp_numbering.specs.declared.variable.Variable.TheVariants as variable
use Rattle.rsp_numbering.specs.Naming.{Scope, bracket}
use Rattle.rsp_numbering.specs.Numbered.{Numbered, give, ◌>>=◌, making, numbered, numbered_name}

-- ---- paths, which name no variable

abbrev mutual
  pub path_of : written.Way → Way
  path_of (written.step x) = path.step (slot.Constant (term.Iri x))
  path_of (written.inverse way) = path.inverse (path_of way)
  path_of (written.sequence ways) = path.sequence (ways_in (paths_of ways))
  path_of (written.choice ways) = path.choice (ways_in (paths_of ways))

  pub paths_of : written.Ways → List Way
  paths_of written.no_way = []
  paths_of (written.way_then way more) = path_of way ∷ paths_of more

abbrev pub verb_way : List Scope → Verb → Numbered Way
verb_way at (named x) = making (λ v. path.step (slot.Variable v)) (numbered_name at x)
verb_way at (along way) = give (path_of way)

-- ---- nodes

abbrev pub node_slot : List Scope → Node → Numbered Slot
node_slot at (variable_node x) = making slot.Variable (numbered_name at x)
node_slot at (iri_node x) = give (slot.Constant (term.Iri x))
node_slot at (constant_node t) = give (slot.Constant t)
node_slot at (label_node x) = making slot.Variable (numbered (λ before. variable.Label x))
node_slot at blank_node = making slot.Variable (numbered bracket)
node_slot at (described properties) = making slot.Variable (numbered bracket)

-- ---- triples

abbrev mutual
  -- in the brackets of a node with this slot
  pub inner_triples : List Scope → Slot → Node → Numbered (List Part)
  inner_triples at subject (described properties) = property_triples at subject properties
  inner_triples at subject _ = give []

  -- of a subject and a verb, one for each object
  pub object_triples : List Scope → Slot → Way → Nodes → Numbered (List Part)
  object_triples at subject verb no_node = give []
  object_triples at subject verb (node_then node more) =
      node_slot at node >>= λ object. inner_triples at object node >>= λ inner.
      making (λ others. triple subject verb object ∷ (inner ++ others)) (object_triples at subject verb more)

  -- of a subject
  pub property_triples : List Scope → Slot → Properties → Numbered (List Part)
  property_triples at subject no_property = give []
  property_triples at subject (property_then verb objects more) =
      verb_way at verb >>= λ way. object_triples at subject way objects >>= λ first.
      making (λ others. first ++ others) (property_triples at subject more)

-- of a subject with what stands in its brackets
abbrev pub triples : List Scope → Node → Properties → Numbered (List Part)
triples at node properties =
    node_slot at node >>= λ subject. inner_triples at subject node >>= λ inner.
    making (λ others. inner ++ others) (property_triples at subject properties)
