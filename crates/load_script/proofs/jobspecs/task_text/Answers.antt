use Rattle.std.proofs.Common.{rules}
use Rattle.load_script.specs.Jobspecs.{task_text}
use Rattle.load_script.proofs.jobspecs.task_text.Goals as goal

pub returns : goal.returns
unfolding task_text
returns c = search rules
