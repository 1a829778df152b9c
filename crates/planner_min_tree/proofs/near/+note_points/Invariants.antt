use Rattle.std.proofs.Common.{length}
use Rattle.planner_min_tree.proofs.near.+note_points.Given as goal

abbrev pub decreases-note_points : goal.decreases-note_points
decreases-note_points l = length l.points.now
