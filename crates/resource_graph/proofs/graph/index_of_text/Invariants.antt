use Rattle.std.proofs.Common.{◌≢◌, ℕ, ◌<◌, Some}
use Rattle.std.specs.Prelude.{slice_get}
use Rattle.resource_graph.proofs.graph.index_of_text.Given as goal

abbrev pub invariant-loop-index : goal.invariant-loop-index
invariant-loop-index l = (k : ℕ) → k < l.index → slice_get l.texts k ≢ Some l.wanted
