use Rattle.std.proofs.Common.{ap, sym, ◌∙◌}
use Rattle.planner_min_tree.specs.Chunks.{flat}
use Rattle.planner_min_tree.specs.Points.{dip_of}
use Rattle.planner_min_tree.proofs.TwoSides.{flat_append}
use Rattle.planner_min_tree.proofs.chunks.DipMeasureChunk.join.Goals as goal

pub returns : goal.returns
returns c = λ xs ys a b. c.in_ok-both.ensures (flat xs) (flat ys) a b ∙ ap dip_of (sym (flat_append xs ys))
