use Rattle.flux_examples.proofs.Jobs.{node_fits}
use Rattle.flux_examples.proofs.whole_node_after_a_job.Goals as goal

pub returns : goal.returns
returns c = node_fits
