use Rattle.std.proofs.Common.{◌≡◌, List, length}
use Rattle.planner_points.specs.declared.spans.Span.{Span}
use Rattle.multi_planner.specs.Places.{AtEach}
use Rattle.multi_planner.proofs.planners.MultiPlanner.share.Given as goal

abbrev pub invariant-loop-place : goal.invariant-loop-place
invariant-loop-place g l = record {
  places : length l.planners ≡ l.place;
  total : AtEach (λ old planner. g.P.Planner.total_of planner ≡ g.P.Planner.total_of old) l.self l.planners;
  horizon : AtEach (λ old planner. g.P.Planner.horizon_of planner ≡ g.P.Planner.horizon_of old) l.self l.planners;
  spans : AtEach (λ old planner. (spans : List Span) → g.P.Planner.stands_for old spans →
      g.P.Planner.stands_for planner spans) l.self l.planners;
}
