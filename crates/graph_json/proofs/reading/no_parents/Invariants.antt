use Rattle.std.proofs.Common.{◌≡◌, ◌++◌, [], map, drop}
use Rattle.graph_json.specs.Nodes.{node_held}
use Rattle.graph_json.specs.Edges.{parents_of}
use Rattle.graph_json.specs.Ids.{ids_of}
use Rattle.graph_json.proofs.reading.no_parents.Given as goal

abbrev pub invariant-nodes : goal.invariant-nodes
invariant-nodes l = l.parents.items ++ parents_of (ids_of (map node_held (drop l._node-index l.nodes))) []
    ≡ parents_of (ids_of (map node_held l.nodes)) []
