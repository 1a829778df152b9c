use Rattle.plain_jobs.proofs.Spans.{Most}
use Rattle.plain_jobs.proofs.takes.most_taken.Given as goal

-- the most at the window's begin and at the starts so far
abbrev pub invariant-loop-job : goal.invariant-loop-job
invariant-loop-job l = Most l.jobs l.window l.vertex 18446744073709551615 l.job-index l.most
