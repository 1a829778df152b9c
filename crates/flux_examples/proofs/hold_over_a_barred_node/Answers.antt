use Rattle.flux_examples.proofs.Jobs.{not_over_node0}
use Rattle.flux_examples.proofs.hold_over_a_barred_node.Goals as goal

pub returns : goal.returns
returns c = not_over_node0
