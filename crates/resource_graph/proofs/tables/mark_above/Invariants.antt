use Rattle.std.proofs.Common.{◌+◌}
use Rattle.std.specs.Option.{option_map_or}
use Rattle.resource_graph.proofs.MarkLaws.{Marks}
use Rattle.resource_graph.proofs.tables.mark_above.Given as goal

abbrev pub invariant-loop-above : goal.invariant-loop-above
invariant-loop-above l = Marks l.vertices l.kinds l.v l.above l.fn.nested.items l.nested.items

abbrev pub decreases-loop-above : goal.decreases-loop-above
decreases-loop-above l = option_map_or (λ u. u + 1) l.above 0
