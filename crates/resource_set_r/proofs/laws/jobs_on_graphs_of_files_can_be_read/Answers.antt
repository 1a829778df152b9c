use Rattle.resource_set_r.proofs.FileBack.{can_be_read}
use Rattle.resource_set_r.proofs.laws.jobs_on_graphs_of_files_can_be_read.Goals as goal

pub returns : goal.returns
returns c g job file small start end = can_be_read g job file small start end
