use Rattle.std.proofs.Common.{◌≡◌, ℕ, length, Some, Option}
use Rattle.std.specs.Prelude.{slice_get}
use Rattle.graph_build.specs.Checks.{climb}
use Rattle.graph_build.proofs.climbs.parents.Given as goal

abbrev pub invariant-loop-vertex : goal.invariant-loop-vertex
invariant-loop-vertex l = (length l.climbs.items ≡ l.vertex-index)
    × ((u : ℕ) (o : Option ℕ) → slice_get l.climbs.items u ≡ Some o → o ≡ climb l.vertices 1 (Some u))
