use Rattle.std.proofs.Common.{◌≡◌, min, take}
use Rattle.flux_defs.specs.Free.{taken_at}
use Rattle.plain_jobs.proofs.takes.taken.Given as goal

-- what the jobs so far take
abbrev pub invariant-loop-job : goal.invariant-loop-job
invariant-loop-job l = l.sum ≡ min (taken_at (take l.job-index l.jobs) l.moment l.vertex) 18446744073709551615
