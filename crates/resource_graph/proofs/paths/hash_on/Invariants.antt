use Rattle.std.proofs.Common.{◌≡◌, take}
use Rattle.std.specs.List.{fold}
use Rattle.resource_graph.specs.Paths.{mixed}
use Rattle.resource_graph.proofs.paths.hash_on.Given as goal

abbrev pub invariant-loop-byte : goal.invariant-loop-byte
invariant-loop-byte l = l.mixing ≡ fold mixed l.initial.mixing (take l.byte-index l.text)
