use Rattle.std.proofs.Common.{length}
use Rattle.planner_min_tree.proofs.points.+first_from.Given as goal

abbrev pub decreases-first_from : goal.decreases-first_from
decreases-first_from l = length l.points.now
