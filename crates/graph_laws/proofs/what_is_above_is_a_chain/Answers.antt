use Rattle.graph_laws.proofs.Containment.{above_is_chain}
use Rattle.graph_laws.proofs.Preorder.{parents_first}
use Rattle.graph_laws.proofs.what_is_above_is_a_chain.Goals as goal

pub returns : goal.returns
returns c = λ g o. above_is_chain g.vertices (parents_first g o)
