use Rattle.std.proofs.Common.{◌≡◌, ℕ, ◌<◌, Some}
use Rattle.flux_defs.specs.Graph.{parent_of}
use Rattle.graph_build.proofs.endless.parents_stand_first.Given as goal

abbrev pub invariant-loop-v : goal.invariant-loop-v
invariant-loop-v l = (v : ℕ) → v < l.v → (p : ℕ) → parent_of l.vertices v ≡ Some p → p < v
