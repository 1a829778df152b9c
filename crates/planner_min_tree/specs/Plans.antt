-- What a planner of points is seen as.
use Rattle.std.specs.Prelude.{ℕ, List}
use Rattle.planner_points.specs.declared.spans.Span.{Span}
use Rattle.planner_min_tree.specs.declared.points.Point.{Point}
use Rattle.planner_min_tree.specs.Marks.{Marks}

-- a total, a horizon, and the points of the spans
pub record Plan : Type 0 where
  pub total : ℕ
  pub horizon : ℕ
  pub points : List Point

-- the plan's points are those of the spans, which never take more than its total
abbrev pub StandsFor : Plan → List Span → Type 0
StandsFor plan spans = Marks plan.total plan.points spans
