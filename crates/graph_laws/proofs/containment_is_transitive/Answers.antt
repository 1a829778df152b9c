use Rattle.graph_laws.proofs.Containment.{below_trans}
use Rattle.graph_laws.proofs.Preorder.{parents_first}
use Rattle.graph_laws.proofs.containment_is_transitive.Goals as goal

pub returns : goal.returns
returns c = λ g o. below_trans g.vertices (parents_first g o)
