use Rattle.std.proofs.Common.{rules}
use Rattle.load_script.specs.Jobspecs.{node_request}
use Rattle.load_script.proofs.jobspecs.node_request.Goals as goal

pub returns : goal.returns
unfolding node_request
returns c = search rules
