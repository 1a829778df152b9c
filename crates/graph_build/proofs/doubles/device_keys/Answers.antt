use Rattle.graph_build.specs.Checks.{graph_in}
use Rattle.graph_build.specs.Keys.{IsDeviceKey}
use Rattle.graph_build.proofs.KeyLaws.{each_more}
use Rattle.graph_build.proofs.doubles.device_keys.Goals as goal

pub loop-v-preserved : goal.loop-v-preserved
loop-v-preserved c = each_more (IsDeviceKey (graph_in c.args.kinds.now c.args.vertices.now)) c.loop-v.v
    c.loop-v.keys.items c.push.new.self.items c.device_key.result c.loop-v.invariant c.device_key.ensures
    c.in_ok-push.ensures.items
