use Rattle.std.proofs.Common.{◌≡◌, map, take}
use Rattle.graph_build.specs.Raw.{shape_of}
use Rattle.graph_build.proofs.arrange.shapes_of.Given as goal

abbrev pub invariant-loop-vertex : goal.invariant-loop-vertex
invariant-loop-vertex l = l.shapes.items ≡ map shape_of (take l.vertex-index l.raw)
