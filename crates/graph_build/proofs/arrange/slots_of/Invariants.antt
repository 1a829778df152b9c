use Rattle.std.proofs.Common.{◌≡◌, map, Some}
use Rattle.graph_build.proofs.arrange.slots_of.Given as goal

abbrev pub invariant-loop-vertex : goal.invariant-loop-vertex
invariant-loop-vertex l = l.slots.items ≡ map (λ r. Some r) l.yielded
