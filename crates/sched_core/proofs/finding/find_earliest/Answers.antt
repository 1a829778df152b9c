use Rattle.std.proofs.Common.{refl}
use Rattle.sched_core.specs.Courses.{left_by, setting_of}
use Rattle.sched_core.proofs.Searched.{none_starts, start_found}
use Rattle.sched_core.proofs.SearchCounts.{last_err}
use Rattle.sched_core.proofs.finding.find_earliest.Goals as goal
use Rattle.flux_defs.specs.Scheduler.{present_of}

pub returns-in-None-clause-found : goal.returns-in-None-clause-found
returns-in-None-clause-found g c = λ rules limit journal of at.
    none_starts (setting_of c.args.graph.now.resources rules c.args.horizon limit) (left_by journal) c.args.ask.now
    c.args.moment at
    (rw c.in-None.is at (c.in_ok-earliest.ensures.found (present_of (left_by journal)) (of.jobs, refl)))

pub returns-in-Some-clause-found : goal.returns-in-Some-clause-found
returns-in-Some-clause-found g c = λ rules limit journal of at.
    let found = rw c.in-Some.is at (c.in_ok-earliest.ensures.found (present_of (left_by journal)) (of.jobs, refl)) in
    start_found (setting_of c.args.graph.now.resources rules c.args.horizon limit) (left_by journal) c.args.ask.now
    c.args.moment at
    c.in-Some.found.start c.in-Some.found.claims found.0 found.1

pub returns-in_err-earliest-clause-work : goal.returns-in_err-earliest-clause-work
returns-in_err-earliest-clause-work g c = λ present stands.
    rw (last_err c.args.horizon c.from_residual.result c.from_residual.ensures.0)
    (c.earliest.ensures.work present stands)

pub returns-in-None-clause-work : goal.returns-in-None-clause-work
returns-in-None-clause-work g c = λ present stands. c.earliest.ensures.work present stands

pub returns-in-Some-clause-work : goal.returns-in-Some-clause-work
returns-in-Some-clause-work g c = λ present stands. rw c.in-Some.is at (c.in_ok-earliest.ensures.soon present stands)
