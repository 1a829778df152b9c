use Rattle.std.proofs.Common.{◌≡◌, map}
use Rattle.std.specs.List.{range_with_len}
use Rattle.load_script.specs.Vertices.{vertex_at}
use Rattle.load_script.proofs.graph.load_vertices.Given as goal

abbrev pub invariant-loop-v : goal.invariant-loop-v
invariant-loop-v l = l.vertices.items ≡ map vertex_at (range_with_len 0 l.v)
