use Rattle.std.proofs.Common.{◌≡◌, ◌-◌, ◌^◌, ◌≤◌, ◌⊎◌}
use Rattle.planner_points.specs.Spans.{IsEnd}
use Rattle.planner_points.proofs.Frees.{LessFrom}
use Rattle.planner_points.proofs.span_list.SpanList.first_left.Given as goal

abbrev pub invariant-seconds : goal.invariant-seconds
invariant-seconds l = record {
  later : l.from ≤ l.t;
  less : LessFrom l.self.total l.self.spans l.quantity l.from l.t;
  at : (l.t ≡ l.from) ⊎ IsEnd l.self.spans l.t;
}

abbrev pub decreases-seconds : goal.decreases-seconds
decreases-seconds l = 2 ^ 64 - l.t
