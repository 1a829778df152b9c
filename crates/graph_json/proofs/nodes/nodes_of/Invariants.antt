use Rattle.std.proofs.Common.{◌≡◌, ◌++◌, map, drop}
use Rattle.std.specs.Result.{result_map_both}
use Rattle.json_whole.specs.Values.{items_view}
use Rattle.graph_json.specs.Nodes.{node_held, nodes_of}
use Rattle.graph_json.proofs.nodes.nodes_of.Given as goal

abbrev pub invariant-nodes : goal.invariant-nodes
invariant-nodes l = result_map_both (λ xs. map node_held l.nodes.items ++ xs)
    (λ m. m) (nodes_of l.at (items_view (drop l.at l.items))) ≡ nodes_of 0 (items_view l.items)
