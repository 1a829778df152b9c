use Rattle.flux_examples.proofs.Jobs.{node_waits}
use Rattle.flux_examples.proofs.whole_node_beside_a_job.Goals as goal

pub returns : goal.returns
returns c = node_waits
