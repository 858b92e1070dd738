-- Triples and their place behind by one function are those by a word of each, put behind the parts so far.
use Rattle.std.proofs.Common.{◌≡◌, List, [], ◌∷◌, ◌++◌, refl, sym, ap, ◌∙◌, append_assoc, append-nil}
use Rattle.rsp_expr.specs.declared.slot.Slot.{Slot}
use Rattle.rsp_query.specs.Paths.{Way}
use Rattle.rsp_query.specs.Groups.{Part, triple}
use Rattle.rsp_written.specs.Trees.{Verb, named, along, Node, variable_node, iri_node, constant_node, label_node, blank_node, described, Nodes, no_node, node_then, Properties, no_property, property_then}
use Rattle.rsp_numbering.specs.Naming.{Scope}
use Rattle.rsp_numbering.specs.Numbered.{State}
use Rattle.rsp_numbering.specs.Triples.{inner_triples, node_slot, object_triples, property_triples, triples, verb_way}
use Rattle.rsp_numbering.specs.TripleSteps.{behind_inner, behind_nodes, behind_properties, behind_slot, behind_triples, behind_verb, slot_of, verb_of, with_inner, with_objects, with_properties, with_triples}

verb_made : (at : List Scope) (verb : Verb) (state : State)
    → verb_way at verb state
    ≡ (verb_of at state.before verb, record state { before = behind_verb at state.before verb })
verb_made at (named x) state = refl
verb_made at (along way) state = refl

slot_made : (at : List Scope) (node : Node) (state : State)
    → node_slot at node state
    ≡ (slot_of at state.before node, record state { before = behind_slot at state.before node })
slot_made at (variable_node x) state = refl
slot_made at (iri_node x) state = refl
slot_made at (constant_node t) state = refl
slot_made at (label_node x) state = refl
slot_made at blank_node state = refl
slot_made at (described properties) state = refl

mutual
  inner_made : (at : List Scope) (those : List Part) (subject : Slot) (node : Node) (state : State)
      → (those ++ (inner_triples at subject node state).0 ≡ with_inner at state.before those subject node)
      × ((inner_triples at subject node state).1
      ≡ record state { before = behind_inner at state.before node })
  inner_made at those subject (variable_node x) state = (append-nil those, refl)
  inner_made at those subject (iri_node x) state = (append-nil those, refl)
  inner_made at those subject (constant_node t) state = (append-nil those, refl)
  inner_made at those subject (label_node x) state = (append-nil those, refl)
  inner_made at those subject blank_node state = (append-nil those, refl)
  inner_made at those subject (described properties) state = properties_made at those subject properties state

  objects_made : (at : List Scope) (those : List Part) (subject : Slot) (verb : Way) (nodes : Nodes) (state : State)
      → (those ++ (object_triples at subject verb nodes state).0 ≡ with_objects at state.before those subject verb nodes)
      × ((object_triples at subject verb nodes state).1
      ≡ record state { before = behind_nodes at state.before nodes })
  objects_made at those subject verb no_node state = (append-nil those, refl)
  objects_made at those subject verb (node_then node more) state =
      let object = slot_of at state.before node in
      let opened : State = record state { before = behind_slot at state.before node } in
      let made = those ++ (triple subject verb object ∷ []) in
      let inner = inner_made at made object node opened in
      let behind : State = record state { before = behind_inner at opened.before node } in
      let others = objects_made at (with_inner at opened.before made object node) subject verb more behind in
      rw (slot_made at node state)
      (rw (inner.1) (
        sym (append_assoc those (triple subject verb object ∷ []) ((inner_triples at object node opened).0 ++ (object_triples at subject verb more behind).0))
            ∙ sym (append_assoc made (inner_triples at object node opened).0 (object_triples at subject verb more behind).0)
            ∙ ap (λ parts. parts ++ (object_triples at subject verb more behind).0) inner.0
            ∙ others.0,
        others.1,
      ))

  properties_made : (at : List Scope) (those : List Part) (subject : Slot) (properties : Properties) (state : State)
      → (those ++ (property_triples at subject properties state).0 ≡ with_properties at state.before those subject properties)
      × ((property_triples at subject properties state).1
      ≡ record state { before = behind_properties at state.before properties })
  properties_made at those subject no_property state = (append-nil those, refl)
  properties_made at those subject (property_then verb objects more) state =
      let way = verb_of at state.before verb in
      let opened : State = record state { before = behind_verb at state.before verb } in
      let first = objects_made at those subject way objects opened in
      let behind : State = record state { before = behind_nodes at opened.before objects } in
      let others = properties_made at (with_objects at opened.before those subject way objects) subject more behind in
      rw (verb_made at verb state)
      (rw (first.1) (
        sym (append_assoc those (object_triples at subject way objects opened).0 (property_triples at subject more behind).0)
            ∙ ap (λ parts. parts ++ (property_triples at subject more behind).0) first.0
            ∙ others.0,
        others.1,
      ))

pub triples_made : (at : List Scope) (those : List Part) (node : Node) (properties : Properties) (state : State)
    → (those ++ (triples at node properties state).0 ≡ with_triples at state.before those node properties)
    × ((triples at node properties state).1
    ≡ record state { before = behind_triples at state.before node properties })
triples_made at those node properties state =
    let subject = slot_of at state.before node in
    let opened : State = record state { before = behind_slot at state.before node } in
    let inner = inner_made at those subject node opened in
    let behind : State = record state { before = behind_inner at opened.before node } in
    let others = properties_made at (with_inner at opened.before those subject node) subject properties behind in
    rw (slot_made at node state)
    (rw (inner.1) (
      sym (append_assoc those (inner_triples at subject node opened).0 (property_triples at subject properties behind).0)
          ∙ ap (λ parts. parts ++ (property_triples at subject properties behind).0) inner.0
          ∙ others.0,
      others.1,
    ))
