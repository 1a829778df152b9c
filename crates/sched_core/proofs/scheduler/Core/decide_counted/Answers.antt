use Rattle.std.proofs.Common.{◌∙◌}
use Rattle.sched_core.proofs.Remains.{decided_course}
use Rattle.sched_core.proofs.scheduler.Core.decide_counted.Goals as goal

pub returns-in-Ok-decide-clause-decided : goal.returns-in-Ok-decide-clause-decided
returns-in-Ok-decide-clause-decided g c =
    decided_course c.self.inside.site c.in-Ok.kept c.in-Ok-decide.next c.args.client c.args.line c.args.command
    c.in-Ok-decide.ensures.ok c.args.self.now (c.in-Ok.ensures.course ∙ c.self.view_is)
