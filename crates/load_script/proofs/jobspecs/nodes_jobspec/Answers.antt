use Rattle.std.proofs.Common.{rules}
use Rattle.load_script.specs.Jobspecs.{nodes_jobspec}
use Rattle.load_script.proofs.jobspecs.nodes_jobspec.Goals as goal

pub returns : goal.returns
unfolding nodes_jobspec
returns c = search rules
