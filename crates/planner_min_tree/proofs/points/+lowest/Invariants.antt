use Rattle.std.proofs.Common.{length}
use Rattle.planner_min_tree.proofs.points.+lowest.Given as goal

abbrev pub decreases-lowest : goal.decreases-lowest
decreases-lowest l = length l.points.now
