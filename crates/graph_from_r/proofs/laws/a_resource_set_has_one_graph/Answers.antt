use Rattle.graph_from_r.proofs.OneOf.{one_graph_of_r, no_fault_of_r}
use Rattle.graph_from_r.proofs.laws.a_resource_set_has_one_graph.Goals as goal

pub returns-clause-one : goal.returns-clause-one
returns-clause-one c bytes g h a b = one_graph_of_r bytes g h a b

pub returns-clause-faultless : goal.returns-clause-faultless
returns-clause-faultless c bytes g fault text told = no_fault_of_r bytes g fault text told
