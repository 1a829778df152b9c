use Rattle.std.proofs.Common.{subst}
use Rattle.overtaken_check.specs.Scans.{cause_of}
use Rattle.sched_core.specs.Candidates.{IsCommitted}
use Rattle.interleave_law.proofs.placing.place.Goals as goal

pub returns-in-Ok-Done-clause-ok : goal.returns-in-Ok-Done-clause-ok
returns-in-Ok-Done-clause-ok g c =
    let done = subst (IsCommitted c.args.core.now c.commit.new.self c.args.client c.args.line c.args.candidate)
    c.in-Ok-Done.field-0-is
    c.in-Ok-Done.ensures.ok in
    (done.0, done.2)

pub returns-in-Ok-Stale-clause-ok : goal.returns-in-Ok-Stale-clause-ok
returns-in-Ok-Stale-clause-ok g c =
    let stale = subst (IsCommitted c.args.core.now c.commit.new.self c.args.client c.args.line c.args.candidate)
    c.in-Ok-Stale.field-0-is
    c.in-Ok-Stale.ensures.ok in
    (stale.0, (cause_of c.in-Ok-Stale._cause, stale.2))
