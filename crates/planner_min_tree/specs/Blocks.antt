-- What a node of points holds.
use Rattle.std.specs.Prelude.{List}
use Rattle.planner_min_tree.specs.declared.points.Point.{Point}
use Rattle.planner_min_tree.specs.declared.chunks.Holder.{Holder}
use Rattle.planner_min_tree.specs.declared.chunks.Holder.TheVariants.{Few, Many}

-- the points that stand in a node
abbrev pub points_in : Holder → List Point
points_in (Few points) = points
points_in (Many points) = points
