use Rattle.graph_build.proofs.OneGraph.{one_graph}
use Rattle.graph_build.proofs.laws.a_list_has_one_graph.Goals as goal

pub returns : goal.returns
returns c kinds raw g h a b = one_graph kinds raw g h a b
