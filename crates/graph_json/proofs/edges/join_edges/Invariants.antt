use Rattle.json_whole.specs.Values.{items_view}
use Rattle.graph_json.specs.Edges.{edges_of, HasJoined}
use Rattle.graph_json.proofs.edges.join_edges.Given as goal

abbrev pub invariant-edges : goal.invariant-edges
invariant-edges l = HasJoined l.ids (edges_of 0 (items_view l.edges)) l.at l.parents
