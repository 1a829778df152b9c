use Rattle.std.proofs.Common.{ℕ, ◌+◌, ◌*◌, ◌≤◌, length}
use Rattle.planner_points.specs.Work.{renew_cost}
use Rattle.vertex_planners.specs.Rows.{places_of, count_all}
use Rattle.vertex_planners.specs.Kept.{Gains}
use Rattle.vertex_planners.specs.Lists.{items_of}
use Rattle.vertex_planners.specs.Work.{change_most, CostWithin}
use Rattle.vertex_planners.proofs.Walks.{Walked}
use Rattle.vertex_planners.proofs.planners.VertexPlanners.gain.Given as goal

abbrev pub invariant-loop-row : goal.invariant-loop-row
invariant-loop-row g l = record {
  walked : Walked (Gains g.P.Planner.total_of g.P.Planner.stands_for l.window)
      (items_of l.fn.self) (items_of l.self) (places_of l.fn.rows) (places_of l.left);
  work : (most : ℕ) →
      CostWithin (renew_cost g.P.Planner.settle_cost g.P.Planner.change_cost) most (items_of l.fn.self) →
      l.steps + count_all (places_of l.left) * change_most (length (items_of l.fn.self)) most
      ≤ l.fn.steps + count_all (places_of l.fn.rows) * change_most (length (items_of l.fn.self)) most;
}

abbrev pub decreases-loop-row : goal.decreases-loop-row
decreases-loop-row g l = count_all (places_of l.left)
