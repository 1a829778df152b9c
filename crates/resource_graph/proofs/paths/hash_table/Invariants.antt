use Rattle.resource_graph.specs.Paths.{HasHashes}
use Rattle.resource_graph.proofs.paths.hash_table.Given as goal

abbrev pub invariant-loop-v : goal.invariant-loop-v
invariant-loop-v l = HasHashes l.vertices l.names l.v l.hashes.items
