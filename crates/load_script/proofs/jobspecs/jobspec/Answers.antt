use Rattle.std.proofs.Common.{rules}
use Rattle.load_script.specs.Jobspecs.{jobspec}
use Rattle.load_script.proofs.jobspecs.jobspec.Goals as goal

pub returns : goal.returns
unfolding jobspec
returns c = search rules
