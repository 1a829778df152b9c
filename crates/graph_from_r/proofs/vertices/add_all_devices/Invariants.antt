use Rattle.std.proofs.Common.{◌≡◌, ◌++◌, ◌+◌, drop}
use Rattle.graph_from_r.specs.Vertices.{devices_of}
use Rattle.graph_from_r.proofs.vertices.add_all_devices.Given as goal

-- what was added, and what is left to add
abbrev pub invariant-nodes : goal.invariant-nodes
invariant-nodes l = record {
  added : l.vertices.items ++ devices_of l.parent (drop l.node-index l.nodes)
      ≡ l.fn.vertices.items ++ devices_of 1 l.nodes;
  parent : l.parent ≡ l.node-index + 1;
}
