use Rattle.std.proofs.Common.{rules}
use Rattle.load_script.specs.Jobspecs.{slot_request}
use Rattle.load_script.proofs.jobspecs.slot_request.Goals as goal

pub returns : goal.returns
unfolding slot_request
returns c = search rules
