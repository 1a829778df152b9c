use Rattle.std.proofs.Common.{length}
use Rattle.planner_min_tree.proofs.near.+low_end_over.Given as goal

abbrev pub decreases-low_end_over : goal.decreases-low_end_over
decreases-low_end_over l = length l.stretches.now
