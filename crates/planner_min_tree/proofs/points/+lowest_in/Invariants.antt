use Rattle.std.proofs.Common.{length}
use Rattle.planner_min_tree.proofs.points.+lowest_in.Given as goal

abbrev pub decreases-lowest_in : goal.decreases-lowest_in
decreases-lowest_in l = length l.points.now
