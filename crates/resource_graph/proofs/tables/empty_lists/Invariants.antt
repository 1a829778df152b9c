use Rattle.std.proofs.Common.{◌≤◌, ◌-◌, vec_len}
use Rattle.resource_graph.specs.Holds.{AreEmpty}
use Rattle.resource_graph.proofs.tables.empty_lists.Given as goal

abbrev pub invariant-loop-alloc : goal.invariant-loop-alloc
invariant-loop-alloc l = AreEmpty l.lists.items (vec_len l.lists) × (vec_len l.lists ≤ l.count)

abbrev pub decreases-loop-alloc : goal.decreases-loop-alloc
decreases-loop-alloc l = l.count - vec_len l.lists
