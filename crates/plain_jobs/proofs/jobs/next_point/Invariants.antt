use Rattle.std.proofs.Common.{take}
use Rattle.plain_jobs.proofs.Points.{IsBest}
use Rattle.plain_jobs.proofs.jobs.next_point.Given as goal

-- the least later point of the jobs so far
abbrev pub invariant-loop-job : goal.invariant-loop-job
invariant-loop-job l = IsBest (take l.job-index l.jobs) l.after l.best
