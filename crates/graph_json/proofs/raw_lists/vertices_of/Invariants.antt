use Rattle.std.proofs.Common.{◌≡◌, ◌++◌, map, drop}
use Rattle.graph_json.specs.Nodes.{node_held}
use Rattle.graph_json.specs.RawLists.{vertex_of, zip_with}
use Rattle.graph_json.proofs.raw_lists.vertices_of.Given as goal

abbrev pub invariant-nodes : goal.invariant-nodes
invariant-nodes l = l.list.items ++ zip_with (vertex_of l.kinds) (map node_held (drop l.at l.nodes))
    (drop l.at l.parents) ≡ zip_with (vertex_of l.kinds) (map node_held l.nodes) l.parents
