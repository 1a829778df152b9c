use Rattle.std.proofs.Common.{length}
use Rattle.planner_points.proofs.span_list.+place_of.Given as goal

abbrev pub decreases-place_of : goal.decreases-place_of
decreases-place_of l = length l.spans.now
