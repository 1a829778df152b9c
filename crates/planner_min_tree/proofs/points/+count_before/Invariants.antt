use Rattle.std.proofs.Common.{length}
use Rattle.planner_min_tree.proofs.points.+count_before.Given as goal

abbrev pub decreases-count_before : goal.decreases-count_before
decreases-count_before l = length l.points.now
