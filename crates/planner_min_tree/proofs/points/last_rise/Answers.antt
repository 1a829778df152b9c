use Rattle.planner_min_tree.proofs.Levels.{next_fits}
use Rattle.planner_min_tree.proofs.points.last_rise.Goals as goal

pub past-level-requires-clause-fits : goal.past-level-requires-clause-fits
past-level-requires-clause-fits c =
    next_fits c.args.points.now c.loop-point.point-index _ c.loop-point.level c.loop-point-test.true
    c.loop-point.invariant.runs
