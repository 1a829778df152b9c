use Rattle.std.proofs.Common.{◌≡◌, ◌≤◌, ◌-◌, length, take}
use Rattle.need_shape.proofs.types.graph_types.Given as goal

abbrev pub invariant-loop-name : goal.invariant-loop-name
invariant-loop-name l =
    record { within : l.kind ≤ length l.graph.resources.kinds; so_far : l.table ≡ take l.kind l.graph.resources.kinds }

abbrev pub decreases-loop-name : goal.decreases-loop-name
decreases-loop-name l = length l.graph.resources.kinds - l.kind
