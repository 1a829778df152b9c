use Rattle.std.proofs.Common.{length}
use Rattle.planner_min_tree.proofs.points.+lowest_before.Given as goal

abbrev pub decreases-lowest_before : goal.decreases-lowest_before
decreases-lowest_before l = length l.points.now
