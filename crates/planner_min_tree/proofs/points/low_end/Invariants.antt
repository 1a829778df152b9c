use Rattle.std.proofs.Common.{◌≡◌, drop}
use Rattle.std.specs.Option.{option_or}
use Rattle.planner_min_tree.specs.Points.{Runs, low_end}
use Rattle.planner_min_tree.proofs.points.low_end.Given as goal

-- the points that are left give the end, or else it is the last so far
abbrev pub invariant-loop-point : goal.invariant-loop-point
invariant-loop-point l = record {
  runs : Runs (drop l.point-index l.points) l.level;
  end : low_end l.to l.quantity l.points l.fn.free
      ≡ option_or (low_end l.to l.quantity (drop l.point-index l.points) l.level) l.last;
}
