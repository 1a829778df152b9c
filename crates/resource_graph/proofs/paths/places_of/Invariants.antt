use Rattle.std.proofs.Common.{length}
use Rattle.resource_graph.specs.Paths.{HasPlacesTo, bucket_in}
use Rattle.resource_graph.proofs.paths.places_of.Given as goal

abbrev pub invariant-loop-v : goal.invariant-loop-v
invariant-loop-v l = HasPlacesTo (bucket_in l.hashes) (length l.hashes) l.v l.last.items l.earlier.items
