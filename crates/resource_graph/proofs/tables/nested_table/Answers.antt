use Rattle.std.proofs.Common.{arith}
use Rattle.resource_graph.proofs.TableLaws.{nested_all, nested_more}
use Rattle.resource_graph.proofs.tables.nested_table.Goals as goal

pub loop-v-preserved : goal.loop-v-preserved
loop-v-preserved c = nested_more c.args.vertices.now
    c.args.kinds c.loop-v.v c.loop-v.nested.items c.mark_above.new.nested.items c.loop-v.invariant c.mark_above.ensures

pub returns : goal.returns
returns c =
    nested_all c.args.vertices.now c.args.kinds c.loop-v.v c.loop-v.nested.items c.loop-v.invariant (omega arith)
