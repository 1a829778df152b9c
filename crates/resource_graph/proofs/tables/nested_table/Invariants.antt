use Rattle.resource_graph.proofs.TableLaws.{HasNestedTo}
use Rattle.resource_graph.proofs.tables.nested_table.Given as goal

abbrev pub invariant-loop-v : goal.invariant-loop-v
invariant-loop-v l = HasNestedTo l.vertices l.kinds l.v l.nested.items
