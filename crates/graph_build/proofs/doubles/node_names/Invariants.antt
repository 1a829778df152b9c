use Rattle.graph_build.specs.Keys.{HasEach, IsNodeName}
use Rattle.graph_build.proofs.doubles.node_names.Given as goal

abbrev pub invariant-loop-v : goal.invariant-loop-v
invariant-loop-v l = HasEach (IsNodeName l.kinds l.raw) l.v l.keys.items
