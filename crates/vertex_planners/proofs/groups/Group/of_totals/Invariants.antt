use Rattle.std.proofs.Common.{◌≡◌, length}
use Rattle.vertex_planners.proofs.groups.Group.of_totals.Given as goal

-- there is a planner for each place so far
abbrev pub invariant-loop-place : goal.invariant-loop-place
invariant-loop-place g l = length l.planners ≡ l._place
