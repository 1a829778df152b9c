use Rattle.std.proofs.Common.{rules}
use Rattle.load_script.specs.Jobspecs.{core_request}
use Rattle.load_script.proofs.jobspecs.core_request.Goals as goal

pub returns : goal.returns
unfolding core_request
returns c = search rules
