use Rattle.std.proofs.Common.{length}
use Rattle.planner_min_tree.proofs.near.+room_over.Given as goal

abbrev pub decreases-room_over : goal.decreases-room_over
decreases-room_over l = length l.stretches.now
