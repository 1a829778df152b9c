use Rattle.std.proofs.Common.{get_or}
use Rattle.resource_graph.proofs.ChainLaws.{no_vertex}
use Rattle.graph_build.proofs.AboveLaws.{parent_pool}
use Rattle.graph_build.proofs.above.is_parent_pool.Goals as goal

pub returns : goal.returns
returns c = parent_pool c.args.vertices.now c.args.v _ c.requires.within
    (c.requires.pools (get_or c.args.vertices.now c.args.v no_vertex).kind)
    ((c.requires.children.each c.args.v c.requires.within).0 c.if-not-children-v.false)
