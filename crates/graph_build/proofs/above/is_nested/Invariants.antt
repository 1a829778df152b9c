use Rattle.std.proofs.Common.{◌≡◌, ◌≢◌, ℕ, ◌<◌, Some}
use Rattle.std.specs.Prelude.{slice_get}
use Rattle.flux_defs.specs.Graph.{HasKind}
use Rattle.graph_build.proofs.above.is_nested.Given as goal

abbrev pub invariant-loop-above : goal.invariant-loop-above
invariant-loop-above l = (i u : ℕ) → i < l.above-index → slice_get l.chain i ≡ Some u → u ≢ l.v → (kind : ℕ) →
    HasKind l.vertices kind l.v → HasKind l.vertices kind u → ⊥
