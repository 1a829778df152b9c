use Rattle.std.proofs.Common.{◌≡◌, ℕ, length, Some, None, Option, get_or, option_and_then}
use Rattle.std.specs.Prelude.{slice_get}
use Rattle.graph_build.proofs.climbs.followed.Given as goal

abbrev pub invariant-loop-v : goal.invariant-loop-v
invariant-loop-v l = (length l.climbs.items ≡ l.v)
    × ((u : ℕ) (o : Option ℕ) → slice_get l.climbs.items u ≡ Some o → (reached : Option ℕ) →
    slice_get l.first u ≡ Some reached → o ≡ option_and_then (λ w. get_or l.second w None) reached)
