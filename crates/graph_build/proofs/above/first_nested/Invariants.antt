use Rattle.std.proofs.Common.{ℕ, ◌<◌}
use Rattle.graph_build.specs.Faults.{IsNestedInKind}
use Rattle.resource_graph.specs.Preorder.{plain}
use Rattle.graph_build.proofs.above.first_nested.Given as goal

abbrev pub invariant-loop-v : goal.invariant-loop-v
invariant-loop-v l = (u : ℕ) → u < l.v → IsNestedInKind (plain l.vertices) u → ⊥
