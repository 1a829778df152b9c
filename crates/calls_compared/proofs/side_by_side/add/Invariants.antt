use Rattle.std.proofs.Common.{◌≡◌, ℕ, ◌<◌, List, Some, slice_get}
use Rattle.planner_points.specs.declared.spans.Span.{Span}
use Rattle.planner_points.specs.Spans.{HasRoom}
use Rattle.calls_compared.proofs.side_by_side.add.Given as goal

abbrev pub invariant-loop-place : goal.invariant-loop-place
invariant-loop-place g l = record {
  room : (k : ℕ) (planner : g.row.P.Denot) (amount : ℕ) → k < l.place → slice_get l.multi k ≡ Some planner →
      slice_get l.amounts k ≡ Some amount → (spans : List Span) → g.P.Planner.stands_for planner spans →
      HasRoom (g.P.Planner.total_of planner) spans l.window amount;
}
