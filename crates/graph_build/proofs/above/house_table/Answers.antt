use Rattle.graph_build.specs.Checks.{graph_in}
use Rattle.graph_build.proofs.AboveLaws.{houses_more}
use Rattle.graph_build.proofs.above.house_table.Goals as goal

pub loop-v-preserved : goal.loop-v-preserved
loop-v-preserved c = houses_more (graph_in c.args.kinds.now c.args.vertices.now) c.loop-v.v c.loop-v.houses.items
    c.push.new.self.items c.house_of-house.result c.loop-v.invariant c.house_of-house.ensures c.in_ok-push.ensures.items
