use Rattle.graph_build.specs.Keys.{HasEach, IsSiblingKey}
use Rattle.graph_build.proofs.doubles.sibling_keys.Given as goal

abbrev pub invariant-loop-v : goal.invariant-loop-v
invariant-loop-v l = HasEach (IsSiblingKey l.raw) l.v l.keys.items
