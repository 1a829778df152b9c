use Rattle.std.proofs.Common.{length}
use Rattle.planner_min_tree.proofs.points.+value_at.Given as goal

abbrev pub decreases-value_at : goal.decreases-value_at
decreases-value_at l = length l.points.now
