use Rattle.std.proofs.Common.{◌≡◌, false, take}
use Rattle.graph_build.specs.Raw.{some_ranked}
use Rattle.graph_build.proofs.arrange.ranks_given.Given as goal

abbrev pub invariant-loop-vertex : goal.invariant-loop-vertex
invariant-loop-vertex l = some_ranked l.kinds (take l.vertex-index l.vertices) ≡ false
