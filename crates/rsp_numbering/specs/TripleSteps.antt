-- Words of the way: of triples what is made of them, behind the parts so far, and what stands behind them.
use Rattle.std.specs.Prelude.{List, [], ◌∷◌, ◌++◌}
use Rattle.rsp_terms.specs.declared.term.Term.TheVariants as term
use Rattle.rsp_expr.specs.declared.slot.Slot.{Slot}
use Rattle.rsp_expr.specs.declared.slot.Slot.TheVariants as slot
use Rattle.rsp_query.specs.Paths.{Way}
use Rattle.rsp_query.specs.Paths as path
use Rattle.rsp_query.specs.Groups.{Part, triple}
use Rattle.rsp_written.specs.Trees.{Verb, named, along, Node, variable_node, iri_node, constant_node, label_node, blank_node}
use Rattle.rsp_written.specs.Trees.{described, Nodes, no_node, node_then, Properties, no_property, property_then}
use Rattle.rsp_numbering.specs.Naming.{Scope, Before, number, behind, bracket}
use Rattle.rsp_numbering.specs.Same.{label}
use Rattle.rsp_numbering.specs.Naming as naming
use Rattle.rsp_numbering.specs.Triples.{path_of}

-- ---- verbs

abbrev pub verb_of : List Scope → Before → Verb → Way
verb_of at before (named x) = path.step (slot.Variable (number before (naming.named at x)))
verb_of at before (along way) = path_of way

abbrev pub behind_verb : List Scope → Before → Verb → Before
behind_verb at before (named x) = behind before (naming.named at x)
behind_verb at before (along way) = before

-- ---- nodes

abbrev pub slot_of : List Scope → Before → Node → Slot
slot_of at before (variable_node x) = slot.Variable (number before (naming.named at x))
slot_of at before (iri_node x) = slot.Constant (term.Iri x)
slot_of at before (constant_node t) = slot.Constant t
slot_of at before (label_node x) = slot.Variable (number before (label x))
slot_of at before blank_node = slot.Variable (number before (bracket before))
slot_of at before (described properties) = slot.Variable (number before (bracket before))

-- behind a node, or the bracket that opens it
abbrev pub behind_slot : List Scope → Before → Node → Before
behind_slot at before (variable_node x) = behind before (naming.named at x)
behind_slot at before (iri_node x) = before
behind_slot at before (constant_node t) = before
behind_slot at before (label_node x) = behind before (label x)
behind_slot at before blank_node = behind before (bracket before)
behind_slot at before (described properties) = behind before (bracket before)

abbrev mutual
  -- behind what stands in a node's brackets
  pub behind_inner : List Scope → Before → Node → Before
  behind_inner at before (variable_node x) = before
  behind_inner at before (iri_node x) = before
  behind_inner at before (constant_node t) = before
  behind_inner at before (label_node x) = before
  behind_inner at before blank_node = before
  behind_inner at before (described properties) = behind_properties at before properties

  pub behind_nodes : List Scope → Before → Nodes → Before
  behind_nodes at before no_node = before
  behind_nodes at before (node_then node more) = behind_nodes at (behind_inner at (behind_slot at before node) node) more

  pub behind_properties : List Scope → Before → Properties → Before
  behind_properties at before no_property = before
  behind_properties at before (property_then verb objects more) =
      behind_properties at (behind_nodes at (behind_verb at before verb) objects) more

-- ---- triples, behind the parts so far

abbrev mutual
  -- those in a node's brackets; the node has this slot
  pub with_inner : List Scope → Before → List Part → Slot → Node → List Part
  with_inner at before those subject (variable_node x) = those
  with_inner at before those subject (iri_node x) = those
  with_inner at before those subject (constant_node t) = those
  with_inner at before those subject (label_node x) = those
  with_inner at before those subject blank_node = those
  with_inner at before those subject (described properties) = with_properties at before those subject properties

  -- of a subject and a verb, one for each object
  pub with_objects : List Scope → Before → List Part → Slot → Way → Nodes → List Part
  with_objects at before those subject verb no_node = those
  with_objects at before those subject verb (node_then node more) =
      with_objects at (behind_inner at (behind_slot at before node) node)
      (with_inner at (behind_slot at before node) (those ++ (triple subject verb (slot_of at before node) ∷ []))
      (slot_of at before node) node)
      subject verb more

  -- of a subject
  pub with_properties : List Scope → Before → List Part → Slot → Properties → List Part
  with_properties at before those subject no_property = those
  with_properties at before those subject (property_then verb objects more) =
      with_properties at (behind_nodes at (behind_verb at before verb) objects)
      (with_objects at (behind_verb at before verb) those subject (verb_of at before verb) objects)
      subject more

-- of a subject with what stands in its brackets
abbrev pub with_triples : List Scope → Before → List Part → Node → Properties → List Part
with_triples at before those node properties =
    with_properties at (behind_inner at (behind_slot at before node) node)
    (with_inner at (behind_slot at before node) those (slot_of at before node) node)
    (slot_of at before node) properties

abbrev pub behind_triples : List Scope → Before → Node → Properties → Before
behind_triples at before node properties = behind_properties at (behind_inner at (behind_slot at before node) node) properties
