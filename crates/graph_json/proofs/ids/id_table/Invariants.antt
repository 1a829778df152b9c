use Rattle.std.proofs.Common.{map}
use Rattle.graph_json.specs.Nodes.{node_held}
use Rattle.graph_json.specs.Ids.{ids_of, IsSetTo}
use Rattle.graph_json.proofs.ids.id_table.Given as goal

abbrev pub invariant-nodes : goal.invariant-nodes
invariant-nodes l = IsSetTo (ids_of (map node_held l.nodes)) l.at l.table
