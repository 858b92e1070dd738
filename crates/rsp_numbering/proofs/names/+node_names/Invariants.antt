use Rattle.std.proofs.Common.{◌≡◌, map, drop}
use Rattle.rsp_written.specs.Building.{nodes_in}
use Rattle.rsp_written.specs.Meanings.{node_of, properties_of}
use Rattle.rsp_numbering.specs.Seeing.{scopes_of}
use Rattle.rsp_numbering.specs.TripleSteps.{behind_nodes, behind_properties}
use Rattle.rsp_numbering.proofs.names.+node_names.Given as goal

abbrev pub invariant-of_nodes-loop-node : goal.invariant-of_nodes-loop-node
invariant-of_nodes-loop-node l =
    behind_nodes (scopes_of l.at) l.before (nodes_in (map node_of (drop l.node-index l.nodes)))
    ≡ behind_nodes (scopes_of l.at) l.fn.before (nodes_in (map node_of l.nodes))

abbrev pub invariant-of_properties-loop-property : goal.invariant-of_properties-loop-property
invariant-of_properties-loop-property l =
    behind_properties (scopes_of l.at) l.before (properties_of (drop l.property-index l.properties))
    ≡ behind_properties (scopes_of l.at) l.fn.before (properties_of l.properties)
