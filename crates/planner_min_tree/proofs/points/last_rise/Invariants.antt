use Rattle.std.proofs.Common.{◌≡◌, drop}
use Rattle.std.specs.Option.{option_or}
use Rattle.planner_min_tree.specs.Points.{Runs, last_rise}
use Rattle.planner_min_tree.proofs.points.last_rise.Given as goal

-- the points that are left give the rise, or else it is the last so far
abbrev pub invariant-loop-point : goal.invariant-loop-point
invariant-loop-point l = record {
  runs : Runs (drop l.point-index l.points) l.level;
  rise : last_rise l.quantity l.points l.fn.free
      ≡ option_or (last_rise l.quantity (drop l.point-index l.points) l.level) l.last;
}
