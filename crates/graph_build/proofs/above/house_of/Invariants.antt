use Rattle.std.proofs.Common.{◌≡◌, ◌≢◌, ℕ, ◌<◌, Some}
use Rattle.std.specs.Prelude.{slice_get}
use Rattle.graph_build.specs.Faults.{IsNodeType}
use Rattle.graph_build.specs.Checks.{graph_in}
use Rattle.graph_build.proofs.above.house_of.Given as goal

abbrev pub invariant-loop-above : goal.invariant-loop-above
invariant-loop-above l = (i u : ℕ) → i < l.above-index → slice_get l.chain i ≡ Some u → u ≢ l.v →
    IsNodeType (graph_in l.kinds l.vertices) u → ⊥
