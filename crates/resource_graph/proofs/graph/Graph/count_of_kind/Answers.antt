use Rattle.std.proofs.Common.{length, subst, arith}
use Rattle.resource_graph.specs.Tables.{IsRunOfKind}
use Rattle.resource_graph.proofs.Queries.{read_list}
use Rattle.resource_graph.proofs.CountLaws.{count_listed, count_past, counts_run}
use Rattle.resource_graph.proofs.graph.Graph.count_of_kind.Goals as goal

pub returns-then-run_of_kind-most : goal.returns-then-run_of_kind-most
returns-then-run_of_kind-most c =
    counts_run c.args.self.now.resources.vertices c.args.kind c.args.from c.args.to c.args.most
    (subst (IsRunOfKind c.args.self.now.resources.vertices c.args.kind c.args.from c.args.to)
    c.if-run_of_kind-most.true c.run_of_kind.ensures)

pub returns-then-kind-len : goal.returns-then-kind-len
returns-then-kind-len c =
    let past = c.if-kind-len.true in
    let long = c.len.ensures in
    rw (← c.self.view_is)
    (count_past c.self.inside.vertices (length c.self.inside.kinds) c.args.kind c.args.from c.args.to c.args.most
    c.self.invariant.whole.valid.kinds.known (omega (arith, past, long, c.self.invariant.lists.as_many)))

pub count_in-requires : goal.count_in-requires
count_in-requires c =
    (read_list c.self.inside.vertices
    _ c.args.kind c.self.inside.lists.items c.index-list.result.now c.as_slice.result.now c.self.invariant.lists
    (omega (arith, c.len.ensures)) c.index-list.ensures c.as_slice.ensures.value).rising

pub returns : goal.returns
returns c =
    rw (← c.self.view_is)
    (count_listed c.self.inside.vertices c.args.kind c.as_slice.result.now
    (read_list c.self.inside.vertices
    _ c.args.kind c.self.inside.lists.items c.index-list.result.now c.as_slice.result.now c.self.invariant.lists
    (omega (arith, c.len.ensures)) c.index-list.ensures c.as_slice.ensures.value)
    c.args.from c.args.to c.args.most c.count_in.result c.count_in.ensures)
