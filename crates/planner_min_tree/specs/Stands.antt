-- What is true of a planner's points at all times.
use Rattle.std.specs.Prelude.{List}
use Rattle.planner_points.specs.declared.spans.Span.{Span}
use Rattle.planner_min_tree.specs.Marks.{Marks}
use Rattle.planner_min_tree.specs.Nears.{AreStretches}
use Rattle.planner_min_tree.specs.Points.{value_at}
use Rattle.planner_min_tree.specs.declared.planner.MinTree.TheInside.{Inside}

-- the points are those of some spans, and the next stretches are those of the points
pub record IsPlan (t : Inside) : Type 0 where
  pub spans : List Span
  pub marks : Marks t.total t.points spans
  pub near : AreStretches (λ m. value_at m t.points t.total) t.near.from t.near.stretches
