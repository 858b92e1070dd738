use Rattle.std.proofs.Common.{◌≡◌, ◌+◌, map, drop}
use Rattle.rsp_written.specs.Building.{nodes_in}
use Rattle.rsp_written.specs.Meanings.{node_of, properties_of}
use Rattle.rsp_numbering.specs.Counting.{objects_count, properties_count}
use Rattle.rsp_numbering.proofs.counts.+brackets.Given as goal

abbrev pub invariant-in_objects-loop-node : goal.invariant-in_objects-loop-node
invariant-in_objects-loop-node l =
    l.total + objects_count l.count l.each (nodes_in (map node_of (drop l.node-index l.nodes)))
    ≡ objects_count l.count l.each (nodes_in (map node_of l.nodes))

abbrev pub invariant-in_properties-loop-property : goal.invariant-in_properties-loop-property
invariant-in_properties-loop-property l =
    l.total + properties_count l.count (properties_of (drop l.property-index l.properties))
    ≡ properties_count l.count (properties_of l.properties)
