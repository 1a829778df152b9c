use Rattle.plain_jobs.proofs.Points.{best_step}
use Rattle.plain_jobs.proofs.jobs.next_point.Goals as goal

pub loop-job-preserved : goal.loop-job-preserved
loop-job-preserved c =
    best_step c.args.jobs.now
    c.loop-job.job-index c.job-item.result c.args.after c.loop-job.best c.lesser.result c.lesser-best.result
    c.loop-job-test.true c.job-item.is c.lesser.ensures c.lesser-best.ensures c.loop-job.invariant
