use Rattle.std.proofs.Common.{◌≡◌, [], length}
use Rattle.multi_planner.specs.Places.{AtEach}
use Rattle.multi_planner.proofs.planners.MultiPlanner.empty.Given as goal

abbrev pub invariant-loop-place : goal.invariant-loop-place
invariant-loop-place g l = record {
  places : length l.planners ≡ l.place;
  total : AtEach (λ total planner. g.P.Planner.total_of planner ≡ total) l.totals l.planners;
  horizon : AtEach (λ total planner. g.P.Planner.horizon_of planner ≡ l.horizon) l.totals l.planners;
  spans : AtEach (λ total planner. g.P.Planner.stands_for planner []) l.totals l.planners;
}
