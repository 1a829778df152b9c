use Rattle.std.proofs.Common.{◌≡◌, length}
use Rattle.vertex_planners.specs.Lists.{items_of, AreWide}
use Rattle.vertex_accounts.specs.Counts.{AreNew}
use Rattle.vertex_accounts.proofs.making.planners_new.Given as goal

-- the planners of the vertices so far
abbrev pub invariant-loop-vertex : goal.invariant-loop-vertex
invariant-loop-vertex g l = record {
  len : length (items_of l.planners) ≡ l.vertex;
  places : AreWide (length l.quantities) (items_of l.planners);
  planners : AreNew g.P.Planner.total_of g.P.Planner.stands_for l.graph.resources.vertices l.quantities
      (items_of l.planners);
}
