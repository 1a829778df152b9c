use Rattle.graph_build.specs.Orders.{HasPaths}
use Rattle.graph_build.proofs.order.path_table.Given as goal

abbrev pub invariant-loop-v : goal.invariant-loop-v
invariant-loop-v l = HasPaths l.vertices l.v l.paths.items
