use Rattle.graph_build.proofs.OwnGraph.{built_from_itself, own_faultless}
use Rattle.graph_build.proofs.laws.a_graph_is_built_from_itself.Goals as goal

pub returns : goal.returns
returns c = record { built = built_from_itself; faultless = own_faultless }
