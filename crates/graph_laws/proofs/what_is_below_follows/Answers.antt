use Rattle.graph_laws.proofs.Preorder.{between_below}
use Rattle.graph_laws.proofs.what_is_below_follows.Goals as goal

pub returns : goal.returns
returns c = λ g o. between_below g o
