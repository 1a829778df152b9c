use Rattle.std.proofs.Common.{length}
use Rattle.planner_min_tree.proofs.points.+lowest_from.Given as goal

abbrev pub decreases-lowest_from : goal.decreases-lowest_from
decreases-lowest_from l = length l.points.now
