use Rattle.graph_build.specs.Checks.{graph_in, HasHouses}
use Rattle.graph_build.proofs.above.house_table.Given as goal

abbrev pub invariant-loop-v : goal.invariant-loop-v
invariant-loop-v l = HasHouses (graph_in l.kinds l.vertices) l.v l.houses.items
