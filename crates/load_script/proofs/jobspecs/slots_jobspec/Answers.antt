use Rattle.std.proofs.Common.{rules}
use Rattle.load_script.specs.Jobspecs.{slots_jobspec}
use Rattle.load_script.proofs.jobspecs.slots_jobspec.Goals as goal

pub returns : goal.returns
unfolding slots_jobspec
returns c = search rules
