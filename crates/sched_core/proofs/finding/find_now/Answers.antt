use Rattle.std.proofs.Common.{refl}
use Rattle.sched_core.specs.Courses.{left_by, setting_of}
use Rattle.sched_core.proofs.Searched.{now_none, now_found}
use Rattle.sched_core.proofs.finding.find_now.Goals as goal
use Rattle.flux_defs.specs.Scheduler.{present_of}

pub returns-in-None-clause-found : goal.returns-in-None-clause-found
returns-in-None-clause-found g c = λ rules limit journal of at.
    now_none (setting_of c.args.graph.now.resources rules c.args.horizon limit) (left_by journal) c.args.ask.now
    c.args.moment at
    c.window_at-window.result c.window_at-window.ensures.window
    (rw c.in-None.is at (c.in_ok-match_at.ensures.found (present_of (left_by journal)) (of.jobs, refl)))

pub returns-in-Some-clause-found : goal.returns-in-Some-clause-found
returns-in-Some-clause-found g c = λ rules limit journal of at.
    now_found (setting_of c.args.graph.now.resources rules c.args.horizon limit) (left_by journal) c.args.ask.now
    c.args.moment at
    c.window_at-window.result c.window_at-window.ensures.window c.in-Some.claims
    (rw c.in-Some.is at (c.in_ok-match_at.ensures.found (present_of (left_by journal)) (of.jobs, refl)))

pub returns-in_err-match_at-clause-work : goal.returns-in_err-match_at-clause-work
returns-in_err-match_at-clause-work g c = λ present stands looks enough.
    c.match_at.ensures.work present stands looks (rw c.window_at-window.ensures.window enough)

pub returns-in-None-clause-work : goal.returns-in-None-clause-work
returns-in-None-clause-work g c = λ present stands looks enough.
    c.match_at.ensures.work present stands looks (rw c.window_at-window.ensures.window enough)

pub returns-in-Some-clause-work : goal.returns-in-Some-clause-work
returns-in-Some-clause-work g c = λ present stands looks enough.
    c.match_at.ensures.work present stands looks (rw c.window_at-window.ensures.window enough)
