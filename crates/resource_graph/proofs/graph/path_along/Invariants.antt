use Rattle.std.proofs.Common.{◌≡◌, ◌≤◌, length, reverse, drop}
use Rattle.std.specs.List.{flat_map}
use Rattle.resource_graph.specs.NamedGraph.{name_step}
use Rattle.resource_graph.proofs.graph.path_along.Given as goal

abbrev pub invariant-loop-left : goal.invariant-loop-left
invariant-loop-left l =
    (l.left ≤ length l.chain) × (l.path.items ≡ flat_map (name_step l.names) (reverse (drop l.left l.chain)))

abbrev pub decreases-loop-left : goal.decreases-loop-left
decreases-loop-left l = l.left
