use Rattle.std.proofs.Common.{subst}
use Rattle.sched_core.specs.Courses.{Course}
use Rattle.sched_core.specs.SearchCosts.{CourseTakes}
use Rattle.sched_core.proofs.scheduler.Core.search_all.Goals as goal

pub returns-in-Err-clause-work : goal.returns-in-Err-clause-work
returns-in-Err-clause-work g c =
    subst (λ (x : Course). CourseTakes x c.args.command x.setting.horizon c.args.steps.now c.found.new.steps)
    c.snap.view_is (rw c.in-Err.is at c.found.ensures.work)
