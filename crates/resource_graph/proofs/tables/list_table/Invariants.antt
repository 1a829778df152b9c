use Rattle.resource_graph.proofs.TableLaws.{HasListsTo}
use Rattle.resource_graph.proofs.tables.list_table.Given as goal

abbrev pub invariant-loop-v : goal.invariant-loop-v
invariant-loop-v l = HasListsTo l.vertices l.kinds l.v l.lists.items
