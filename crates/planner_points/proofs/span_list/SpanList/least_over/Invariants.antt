use Rattle.std.proofs.Common.{◌-◌, ◌<◌, ◌≤◌}
use Rattle.planner_points.proofs.Starts.{IsLeastTo}
use Rattle.planner_points.proofs.span_list.SpanList.least_over.Given as goal

abbrev pub invariant-loop-next : goal.invariant-loop-next
invariant-loop-next l = record {
  later : l.window.from ≤ l.t;
  inside : l.t < l.window.to;
  least : IsLeastTo l.self.total l.self.spans l.window.from l.t l.least;
}

abbrev pub decreases-loop-next : goal.decreases-loop-next
decreases-loop-next l = l.window.to - l.t
