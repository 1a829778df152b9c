use Rattle.graph_build.specs.Checks.{HasChildren}
use Rattle.graph_build.proofs.above.child_table.Given as goal

abbrev pub invariant-loop-v : goal.invariant-loop-v
invariant-loop-v l = HasChildren l.vertices l.v l.children.items
