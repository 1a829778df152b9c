use Rattle.std.proofs.Common.{arith}
use Rattle.resource_graph.proofs.CountLaws.{counts_in}
use Rattle.resource_graph.proofs.graph.count_in.Goals as goal

pub returns : goal.returns
returns c =
    counts_in c.args.list.now c.args.from c.args.to c.args.most _ c.index_of-first.result c.index_of-after.result
    c.index_of-first.ensures c.index_of-after.ensures
    (omega (arith, c.saturating_sub.ensures, c.min.ensures))
