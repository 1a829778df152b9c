use Rattle.jobspec_v1.proofs.TaskLaws.{one_value}
use Rattle.jobspec_v1.proofs.jobspecs.is_one.Goals as goal

pub returns : goal.returns
returns c = one_value c.args.values.now
