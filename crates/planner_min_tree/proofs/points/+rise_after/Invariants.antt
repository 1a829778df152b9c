use Rattle.std.proofs.Common.{length}
use Rattle.planner_min_tree.proofs.points.+rise_after.Given as goal

abbrev pub decreases-rise_after : goal.decreases-rise_after
decreases-rise_after l = length l.points.now
