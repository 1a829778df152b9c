use Rattle.graph_build.specs.Orders.{HasEnds}
use Rattle.graph_build.proofs.order.ends_of.Given as goal

abbrev pub invariant-loop-list : goal.invariant-loop-list
invariant-loop-list l = HasEnds l.lists l.list-index l.ends.items
