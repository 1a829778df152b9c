use Rattle.std.proofs.Common.{length}
use Rattle.planner_points.proofs.span_list.+left_at.Given as goal

abbrev pub decreases-left_at : goal.decreases-left_at
decreases-left_at l = length l.spans.now
