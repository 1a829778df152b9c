use Rattle.std.proofs.Common.{◌≡◌, ◌+◌, ◌≤◌, List, ◌∷◌, ◌++◌, length, take}
use Rattle.std.specs.Prelude.{sum_by}
use Rattle.planner_points.specs.declared.spans.Span.{Span}
use Rattle.planner_points.specs.Spans.{span_of}
use Rattle.multi_planner.specs.Places.{AtEach, AtEachThree}
use Rattle.multi_planner.proofs.planners.MultiPlanner.with_spans.Given as goal

abbrev pub invariant-loop-place : goal.invariant-loop-place
invariant-loop-place g l = record {
  places : length l.planners ≡ l.place;
  total : AtEach (λ old planner. g.P.Planner.total_of planner ≡ g.P.Planner.total_of old) l.self l.planners;
  horizon : AtEach (λ old planner. g.P.Planner.horizon_of planner ≡ g.P.Planner.horizon_of old) l.self l.planners;
  spans : AtEachThree (λ old amount planner. (before after : List Span) →
      g.P.Planner.stands_for old (before ++ after) → g.P.Planner.stands_for planner
      (before ++ span_of l.window amount ∷ after)) l.self l.amounts l.planners;
  work : l.steps ≤ l.fn.steps + sum_by g.P.Planner.change_cost (take l.place l.self);
}
