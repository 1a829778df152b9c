use Rattle.vertex_planners.proofs.ItemLaws.{FreshIn}
use Rattle.vertex_planners.proofs.groups.Group.set.Given as goal

-- the places so far have planners without spans
abbrev pub invariant-loop-place : goal.invariant-loop-place
invariant-loop-place g l = FreshIn g.P.Planner.total_of g.P.Planner.stands_for l.totals l.slot l.fn.self
    l.self-inside.planners l.place
