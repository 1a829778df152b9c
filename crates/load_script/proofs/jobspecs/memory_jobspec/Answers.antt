use Rattle.std.proofs.Common.{rules}
use Rattle.load_script.specs.Jobspecs.{memory_jobspec}
use Rattle.load_script.proofs.jobspecs.memory_jobspec.Goals as goal

pub returns : goal.returns
unfolding memory_jobspec
returns c = search rules
