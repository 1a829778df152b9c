use Rattle.std.proofs.Common.{length}
use Rattle.planner_min_tree.proofs.near.+first_high.Given as goal

abbrev pub decreases-first_high : goal.decreases-first_high
decreases-first_high l = length l.stretches.now
