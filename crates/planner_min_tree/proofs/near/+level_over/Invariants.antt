use Rattle.std.proofs.Common.{length}
use Rattle.planner_min_tree.proofs.near.+level_over.Given as goal

abbrev pub decreases-level_over : goal.decreases-level_over
decreases-level_over l = length l.stretches.now
