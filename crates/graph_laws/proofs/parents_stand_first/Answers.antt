use Rattle.graph_laws.proofs.Preorder.{parents_first}
use Rattle.graph_laws.proofs.parents_stand_first.Goals as goal

pub returns : goal.returns
returns c = λ g o. parents_first g o
