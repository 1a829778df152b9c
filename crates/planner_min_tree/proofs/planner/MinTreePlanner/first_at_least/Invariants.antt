use Rattle.std.proofs.Common.{◌+◌, ◌-◌, ◌*◌, ◌≤◌, List, length}
use Rattle.flux_defs.specs.Digits.{dig}
use Rattle.planner_points.specs.declared.spans.Span.{Span}
use Rattle.planner_points.proofs.Starts.{NoneFrom}
use Rattle.planner_min_tree.specs.Plans.{StandsFor}
use Rattle.planner_min_tree.specs.Points.{count_before}
use Rattle.planner_min_tree.proofs.planner.MinTreePlanner.first_at_least.Given as goal

abbrev pub invariant-loop-from : goal.invariant-loop-from
invariant-loop-from g l = record {
  later : l.from ≤ l.t;
  none : (spans : List Span) → StandsFor l.self spans →
      NoneFrom l.self.total l.self.horizon spans l.duration l.quantity l.from l.t;
  work : l.steps ≤ l.fn.steps + count_before (l.t + 1) l.self.points * (6 * dig (length l.self.points + 2));
}

abbrev pub decreases-loop-from : goal.decreases-loop-from
decreases-loop-from g l = length l.self.points - count_before (l.t + 1) l.self.points
