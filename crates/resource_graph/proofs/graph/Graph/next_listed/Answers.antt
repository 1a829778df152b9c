use Rattle.std.proofs.Common.{arith}
use Rattle.resource_graph.proofs.Queries.{next_of_list, read_list}
use Rattle.resource_graph.proofs.graph.Graph.next_listed.Goals as goal

pub next_in-requires : goal.next_in-requires
next_in-requires c =
    (read_list c.self.inside.vertices
    _ c.args.kind c.self.inside.lists.items c.index-list.result.now c.as_slice.result.now c.self.invariant.lists
    (omega (arith, c.len.ensures)) c.index-list.ensures c.as_slice.ensures.value).rising

pub returns : goal.returns
returns c =
    rw (← c.self.view_is)
    (next_of_list c.self.inside.vertices c.args.kind c.as_slice.result.now c.args.from c.args.to c.next_in.result
    (read_list c.self.inside.vertices
    _ c.args.kind c.self.inside.lists.items c.index-list.result.now c.as_slice.result.now c.self.invariant.lists
    (omega (arith, c.len.ensures)) c.index-list.ensures c.as_slice.ensures.value)
    c.next_in.ensures)
