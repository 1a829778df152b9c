use Rattle.std.proofs.Common.{rules}
use Rattle.load_script.specs.Jobspecs.{memory_request}
use Rattle.load_script.proofs.jobspecs.memory_request.Goals as goal

pub returns : goal.returns
unfolding memory_request
returns c = search rules
