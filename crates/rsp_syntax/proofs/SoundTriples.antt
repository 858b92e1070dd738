-- Numbered triples name variables that stand before their end alone.
use Rattle.std.proofs.Common.{ℕ, ◌≤◌, List, [], ◌∷◌, arith}
use Rattle.std.specs.List.{AllByRecursion}
use Rattle.std.proofs.Math.Nat.{le_trans}
use Rattle.rsp_expr.specs.declared.slot.Slot.{Slot}
use Rattle.rsp_query.specs.Paths.{Way, ways_in}
use Rattle.rsp_query.specs.Groups.{Part, triple}
use Rattle.rsp_written.specs.Trees as written
use Rattle.rsp_written.specs.Trees.{Verb, named, along, Node, variable_node, iri_node, constant_node, label_node, blank_node, described, Nodes, no_node, node_then, Properties, no_property, property_then}
use Rattle.rsp_numbering.specs.Naming.{Scope, Before, behind, bracket}
use Rattle.rsp_numbering.specs.Same.{label}
use Rattle.rsp_numbering.specs.Naming as naming
use Rattle.rsp_numbering.specs.Triples.{path_of, paths_of}
use Rattle.rsp_numbering.specs.TripleSteps.{behind_inner, behind_nodes, behind_properties, behind_slot, behind_triples, behind_verb, slot_of, verb_of, with_inner, with_objects, with_properties, with_triples}
use Rattle.rsp_algebra.specs.Nodes.{slot_variables}
use Rattle.rsp_algebra.specs.Fitting.{AreBelow}
use Rattle.rsp_algebra.proofs.Widths.{all-append}
use Rattle.rsp_shapes.specs.Sound.{PartIsSound, WayIsBelow, WaysAreBelow}
use Rattle.rsp_syntax.proofs.Numbers.{behind_grows, count, number_below}

-- ---- behind triples there are no fewer variables

verb_grows : (at : List Scope) (before : Before) (verb : Verb) → count before ≤ count (behind_verb at before verb)
verb_grows at before (named x) = behind_grows before (naming.named at x)
verb_grows at before (along way) = omega arith

slot_grows : (at : List Scope) (before : Before) (node : Node) → count before ≤ count (behind_slot at before node)
slot_grows at before (variable_node x) = behind_grows before (naming.named at x)
slot_grows at before (iri_node x) = omega arith
slot_grows at before (constant_node t) = omega arith
slot_grows at before (label_node x) = behind_grows before (label x)
slot_grows at before blank_node = behind_grows before (bracket before)
slot_grows at before (described properties) = behind_grows before (bracket before)

mutual
  inner_grows : (at : List Scope) (before : Before) (node : Node) → count before ≤ count (behind_inner at before node)
  inner_grows at before (variable_node x) = omega arith
  inner_grows at before (iri_node x) = omega arith
  inner_grows at before (constant_node t) = omega arith
  inner_grows at before (label_node x) = omega arith
  inner_grows at before blank_node = omega arith
  inner_grows at before (described properties) = properties_grow at before properties

  nodes_grow : (at : List Scope) (before : Before) (nodes : Nodes) → count before ≤ count (behind_nodes at before nodes)
  nodes_grow at before no_node = omega arith
  nodes_grow at before (node_then node more) =
      le_trans (slot_grows at before node)
      (le_trans (inner_grows at (behind_slot at before node) node)
      (nodes_grow at (behind_inner at (behind_slot at before node) node) more))

  properties_grow : (at : List Scope) (before : Before) (properties : Properties)
      → count before ≤ count (behind_properties at before properties)
  properties_grow at before no_property = omega arith
  properties_grow at before (property_then verb objects more) =
      le_trans (verb_grows at before verb)
      (le_trans (nodes_grow at (behind_verb at before verb) objects)
      (properties_grow at (behind_nodes at (behind_verb at before verb) objects) more))

pub triples_grow : (at : List Scope) (before : Before) (node : Node) (properties : Properties)
    → count before ≤ count (behind_triples at before node properties)
triples_grow at before node properties =
    le_trans (slot_grows at before node)
    (le_trans (inner_grows at (behind_slot at before node) node)
    (properties_grow at (behind_inner at (behind_slot at before node) node) properties))

-- ---- paths, verbs and nodes

mutual
  path_below : (n : ℕ) (way : written.Way) → WayIsBelow n (path_of way)
  path_below n (written.step x) = tt
  path_below n (written.inverse way) = path_below n way
  path_below n (written.sequence ways) = paths_below n ways
  path_below n (written.choice ways) = paths_below n ways

  paths_below : (n : ℕ) (ways : written.Ways) → WaysAreBelow n (ways_in (paths_of ways))
  paths_below n written.no_way = tt
  paths_below n (written.way_then way more) = (path_below n way, paths_below n more)

verb_below : (n : ℕ) (at : List Scope) (before : Before) (verb : Verb) → count (behind_verb at before verb) ≤ n
    → WayIsBelow n (verb_of at before verb)
verb_below n at before (named x) room = (number_below n before (naming.named at x) room, tt)
verb_below n at before (along way) room = path_below n way

slot_below : (n : ℕ) (at : List Scope) (before : Before) (node : Node) → count (behind_slot at before node) ≤ n
    → AreBelow n (slot_variables (slot_of at before node))
slot_below n at before (variable_node x) room = (number_below n before (naming.named at x) room, tt)
slot_below n at before (iri_node x) room = tt
slot_below n at before (constant_node t) room = tt
slot_below n at before (label_node x) room = (number_below n before (label x) room, tt)
slot_below n at before blank_node room = (number_below n before (bracket before) room, tt)
slot_below n at before (described properties) room = (number_below n before (bracket before) room, tt)

-- ---- triples

mutual
  inner_sound : (n : ℕ) (at : List Scope) (before : Before) (those : List Part) (subject : Slot) (node : Node)
      → count (behind_inner at before node) ≤ n → AreBelow n (slot_variables subject) → AllByRecursion (PartIsSound n) those
      → AllByRecursion (PartIsSound n) (with_inner at before those subject node)
  inner_sound n at before those subject (variable_node x) room below sound = sound
  inner_sound n at before those subject (iri_node x) room below sound = sound
  inner_sound n at before those subject (constant_node t) room below sound = sound
  inner_sound n at before those subject (label_node x) room below sound = sound
  inner_sound n at before those subject blank_node room below sound = sound
  inner_sound n at before those subject (described properties) room below sound =
      properties_sound n at before those subject properties room below sound

  objects_sound : (n : ℕ) (at : List Scope) (before : Before) (those : List Part) (subject : Slot) (verb : Way) (nodes : Nodes)
      → count (behind_nodes at before nodes) ≤ n → AreBelow n (slot_variables subject) → WayIsBelow n verb
      → AllByRecursion (PartIsSound n) those → AllByRecursion (PartIsSound n) (with_objects at before those subject verb nodes)
  objects_sound n at before those subject verb no_node room below way sound = sound
  objects_sound n at before those subject verb (node_then node more) room below way sound =
      let opened = behind_slot at before node in
      let closed = behind_inner at opened node in
      let inside = le_trans (nodes_grow at closed more) room in
      let object = slot_below n at before node (le_trans (inner_grows at opened node) inside) in
      objects_sound n at closed _ subject verb more room below way
      (inner_sound n at opened _ (slot_of at before node) node inside object
      (all-append (PartIsSound n) those (triple subject verb (slot_of at before node) ∷ []) sound ((below, (way, object)), tt)))

  properties_sound : (n : ℕ) (at : List Scope) (before : Before) (those : List Part) (subject : Slot) (properties : Properties)
      → count (behind_properties at before properties) ≤ n → AreBelow n (slot_variables subject)
      → AllByRecursion (PartIsSound n) those → AllByRecursion (PartIsSound n) (with_properties at before those subject properties)
  properties_sound n at before those subject no_property room below sound = sound
  properties_sound n at before those subject (property_then verb objects more) room below sound =
      let named_verb = behind_verb at before verb in
      let ended = behind_nodes at named_verb objects in
      let inside = le_trans (properties_grow at ended more) room in
      properties_sound n at ended _ subject more room below
      (objects_sound n at named_verb those subject (verb_of at before verb) objects inside below
      (verb_below n at before verb (le_trans (nodes_grow at named_verb objects) inside)) sound)

pub triples_sound : (n : ℕ) (at : List Scope) (before : Before) (those : List Part) (node : Node) (properties : Properties)
    → count (behind_triples at before node properties) ≤ n → AllByRecursion (PartIsSound n) those
    → AllByRecursion (PartIsSound n) (with_triples at before those node properties)
triples_sound n at before those node properties room sound =
    let opened = behind_slot at before node in
    let closed = behind_inner at opened node in
    let inside = le_trans (properties_grow at closed properties) room in
    let subject = slot_below n at before node (le_trans (inner_grows at opened node) inside) in
    properties_sound n at closed _ (slot_of at before node) properties room subject
    (inner_sound n at opened those (slot_of at before node) node inside subject sound)
