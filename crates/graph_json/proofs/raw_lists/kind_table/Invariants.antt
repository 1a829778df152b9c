use Rattle.std.proofs.Common.{◌≡◌, map, drop, fold}
use Rattle.graph_json.specs.Nodes.{node_held}
use Rattle.graph_json.specs.RawLists.{kinds_of}
use Rattle.text_table.specs.Tables.{with_text}
use Rattle.graph_json.proofs.raw_lists.kind_table.Given as goal

abbrev pub invariant-nodes : goal.invariant-nodes
invariant-nodes l =
    fold with_text l.table (map (λ x. x.kind.now) (drop l.node-index l.nodes)) ≡ kinds_of (map node_held l.nodes)
