use Rattle.std.proofs.Common.{◌≡◌, take}
use Rattle.planner_min_tree.specs.Points.{dip_of}
use Rattle.planner_min_tree.proofs.points.dip_of.Given as goal

-- what the points so far do
abbrev pub invariant-loop-point : goal.invariant-loop-point
invariant-loop-point l = l.all ≡ dip_of (take l.point-index l.points)
