use Rattle.std.proofs.Common.{◌≡◌, ℕ, ◌+◌, ◌*◌, ◌≤◌, take, slice_get, Some}
use Rattle.planner_points.specs.Work.{renew_cost}
use Rattle.vertex_planners.specs.Groups.{sixteenths}
use Rattle.vertex_planners.specs.Kept.{Loses}
use Rattle.vertex_planners.specs.Rows.{count_some}
use Rattle.vertex_planners.proofs.ItemLaws.{ChangedIn}
use Rattle.vertex_planners.proofs.groups.Group.lose.Given as goal

abbrev pub invariant-loop-place : goal.invariant-loop-place
invariant-loop-place g l = record {
  each : ChangedIn (Loses g.P.Planner.total_of g.P.Planner.stands_for l.window) l.row l.slot l.fn.self
      l.self-inside.planners l.place;
  work : (most : ℕ) → ((k : ℕ) (p : _) →
      slice_get (sixteenths l.fn.self l.slot) k ≡ Some p →
      renew_cost g.P.Planner.settle_cost g.P.Planner.change_cost p ≤ most) →
      l.steps ≤ l.fn.steps + count_some (take l.place l.row) * most;
}
