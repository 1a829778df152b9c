use Rattle.std.proofs.Common.{◌≡◌, ◌++◌, drop, map}
use Rattle.graph_from_r.specs.Vertices.{node_vertex}
use Rattle.graph_from_r.proofs.vertices.add_nodes.Given as goal

-- what was added, and what is left to add
abbrev pub invariant-nodes : goal.invariant-nodes
invariant-nodes l = l.vertices.items ++ map node_vertex (drop l.node-index l.nodes)
    ≡ l.fn.vertices.items ++ map node_vertex l.nodes
