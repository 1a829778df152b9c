use Rattle.std.proofs.Common.{◌-◌, ◌≤◌}
use Rattle.planner_points.proofs.Lasts.{IsLast, up_to}
use Rattle.planner_points.proofs.span_list.SpanList.last_left.Given as goal

abbrev pub invariant-stretches : goal.invariant-stretches
invariant-stretches l = record {
  later : l.window.from ≤ l.t;
  within : l.t ≤ l.window.to;
  last : IsLast l.self.total l.self.spans (up_to l.window.from l.t) l.quantity l.last;
}

abbrev pub decreases-stretches : goal.decreases-stretches
decreases-stretches l = l.window.to - l.t
