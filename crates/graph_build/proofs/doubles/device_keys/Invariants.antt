use Rattle.graph_build.specs.Checks.{graph_in}
use Rattle.graph_build.specs.Keys.{HasEach, IsDeviceKey}
use Rattle.graph_build.proofs.doubles.device_keys.Given as goal

abbrev pub invariant-loop-v : goal.invariant-loop-v
invariant-loop-v l = HasEach (IsDeviceKey (graph_in l.kinds l.vertices)) l.v l.keys.items
