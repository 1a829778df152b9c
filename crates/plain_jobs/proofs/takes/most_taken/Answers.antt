use Rattle.std.proofs.Common.{sym, arith}
use Rattle.plain_jobs.proofs.Spans.{most_step, most_ends}
use Rattle.plain_jobs.proofs.takes.most_taken.Goals as goal

pub loop-job-init : goal.loop-job-init
loop-job-init c = record {
  begin = omega (arith, c.taken-most.ensures);
  starts = λ i job lt. absurd (omega arith);
  reached = (c.args.window.from, omega arith, c.requires, sym c.taken-most.ensures);
}

pub loop-job-preserved : goal.loop-job-preserved
loop-job-preserved c =
    most_step c.args.jobs.now
    c.args.window c.args.vertex 18446744073709551615 c.loop-job.job-index c.loop-job.most c.raised-most.result
    c.job-item.result c.loop-job-test.true c.job-item.is c.loop-job.invariant c.raised-most.ensures

pub returns : goal.returns
returns c = most_ends c.args.jobs.now c.args.window
    c.args.vertex 18446744073709551615 c.loop-job.job-index c.loop-job.most c.loop-job-test.false c.loop-job.invariant
