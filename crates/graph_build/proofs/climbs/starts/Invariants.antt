use Rattle.std.proofs.Common.{◌≡◌, ℕ, length, Some, Option}
use Rattle.std.specs.Prelude.{slice_get}
use Rattle.graph_build.specs.Checks.{climb}
use Rattle.graph_build.proofs.climbs.starts.Given as goal

abbrev pub invariant-loop-v : goal.invariant-loop-v
invariant-loop-v l = (length l.climbs.items ≡ l.v)
    × ((u : ℕ) (o : Option ℕ) → slice_get l.climbs.items u ≡ Some o → o ≡ climb l.vertices 0 (Some u))
