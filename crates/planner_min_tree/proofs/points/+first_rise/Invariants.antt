use Rattle.std.proofs.Common.{length}
use Rattle.planner_min_tree.proofs.points.+first_rise.Given as goal

abbrev pub decreases-first_rise : goal.decreases-first_rise
decreases-first_rise l = length l.points.now
