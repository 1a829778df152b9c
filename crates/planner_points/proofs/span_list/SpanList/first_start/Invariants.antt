use Rattle.std.proofs.Common.{◌-◌, ◌^◌, ◌≤◌}
use Rattle.planner_points.proofs.Starts.{NoneFrom}
use Rattle.planner_points.proofs.span_list.SpanList.first_start.Given as goal

abbrev pub invariant-loop-from : goal.invariant-loop-from
invariant-loop-from l = record {
  later : l.from ≤ l.t;
  none : NoneFrom l.self.total l.self.horizon l.self.spans l.duration l.quantity l.from l.t;
}

abbrev pub decreases-loop-from : goal.decreases-loop-from
decreases-loop-from l = 2 ^ 64 - l.t
