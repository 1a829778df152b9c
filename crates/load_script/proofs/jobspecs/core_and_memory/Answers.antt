use Rattle.std.proofs.Common.{rules}
use Rattle.load_script.specs.Jobspecs.{core_and_memory}
use Rattle.load_script.proofs.jobspecs.core_and_memory.Goals as goal

pub returns : goal.returns
unfolding core_and_memory
returns c = search rules
