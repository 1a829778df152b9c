use Rattle.sched_core.proofs.CommitCounts.{append_covered}
use Rattle.sched_core.proofs.committing.placed.Goals as goal

pub returns-in-Ok-clause-work : goal.returns-in-Ok-clause-work
returns-in-Ok-clause-work g c = λ most adds.
    append_covered c.args.site.now c.args.kept
    c.requires.core most c.args.steps.now c.append.new.steps (c.append.ensures.work most adds)

pub returns-in-Err-clause-work : goal.returns-in-Err-clause-work
returns-in-Err-clause-work g c = λ most adds.
    append_covered c.args.site.now c.args.kept
    c.requires.core most c.args.steps.now c.append.new.steps (c.append.ensures.work most adds)
