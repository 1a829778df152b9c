use Rattle.std.proofs.Common.{length}
use Rattle.planner_points.proofs.span_list.+next_end.Given as goal

abbrev pub decreases-next_end : goal.decreases-next_end
decreases-next_end l = length l.spans.now
