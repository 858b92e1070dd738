use Rattle.std.proofs.Common.{◌≡◌, map, drop}
use Rattle.rsp_query.specs.Meanings.{part_of, way_of}
use Rattle.rsp_written.specs.Building.{nodes_in}
use Rattle.rsp_written.specs.Meanings as written
use Rattle.rsp_numbering.specs.Seeing.{scopes_of}
use Rattle.rsp_numbering.specs.TripleSteps.{behind_nodes, behind_properties, with_objects, with_properties}
use Rattle.rsp_numbering.proofs.triples.+triples.Given as goal

abbrev pub invariant-put_objects-loop-node : goal.invariant-put_objects-loop-node
invariant-put_objects-loop-node l = record {
  parts : with_objects (scopes_of l.at) l.before (map part_of l.parts.items) l.subject (way_of l.verb) (nodes_in (map written.node_of (drop l.node-index l.nodes)))
      ≡ with_objects (scopes_of l.at) l.fn.before (map part_of l.fn.parts.items) l.subject (way_of l.verb) (nodes_in (map written.node_of l.nodes));
  behind : behind_nodes (scopes_of l.at) l.before (nodes_in (map written.node_of (drop l.node-index l.nodes)))
      ≡ behind_nodes (scopes_of l.at) l.fn.before (nodes_in (map written.node_of l.nodes));
}

abbrev pub invariant-put_properties-loop-property : goal.invariant-put_properties-loop-property
invariant-put_properties-loop-property l = record {
  parts : with_properties (scopes_of l.at) l.before (map part_of l.parts.items) l.subject (written.properties_of (drop l.property-index l.properties))
      ≡ with_properties (scopes_of l.at) l.fn.before (map part_of l.fn.parts.items) l.subject (written.properties_of l.properties);
  behind : behind_properties (scopes_of l.at) l.before (written.properties_of (drop l.property-index l.properties))
      ≡ behind_properties (scopes_of l.at) l.fn.before (written.properties_of l.properties);
}
