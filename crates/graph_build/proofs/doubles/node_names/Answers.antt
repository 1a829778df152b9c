use Rattle.graph_build.specs.Keys.{IsNodeName}
use Rattle.graph_build.proofs.KeyLaws.{each_more}
use Rattle.graph_build.proofs.doubles.node_names.Goals as goal

pub loop-v-preserved : goal.loop-v-preserved
loop-v-preserved c = each_more (IsNodeName c.args.kinds.now c.args.raw.now) c.loop-v.v c.loop-v.keys.items
    c.push.new.self.items c.node_name.result c.loop-v.invariant c.node_name.ensures c.in_ok-push.ensures.items
