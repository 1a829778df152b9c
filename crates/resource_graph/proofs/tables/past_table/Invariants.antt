use Rattle.std.proofs.Common.{◌≤◌, length}
use Rattle.resource_graph.proofs.PastLaws.{HasPastsFrom}
use Rattle.resource_graph.proofs.tables.past_table.Given as goal

abbrev pub invariant-loop-left : goal.invariant-loop-left
invariant-loop-left l = HasPastsFrom l.vertices l.left l.past.items × (l.left ≤ length l.vertices)

abbrev pub decreases-loop-left : goal.decreases-loop-left
decreases-loop-left l = l.left
