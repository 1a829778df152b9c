use Rattle.std.proofs.Common.{sym, Some, None}
use Rattle.dfu_match.proofs.BarLaws.{over_none, over_node}
use Rattle.dfu_match.proofs.search.bars_over.Goals as goal

pub returns-in-None : goal.returns-in-None
returns-in-None g c =
    let graph = c.args.s.now.graph.now in
    let never = rw c.in-None.is at c.node_of.ensures in
    sym (over_none graph.resources graph.names c.is_valid.ensures.valid c.args.s.now.barred.now c.args.s.now.nodes
    c.args.vertex never)

pub returns-in-None-least_from : goal.returns-in-None-least_from
returns-in-None-least_from g c =
    let graph = c.args.s.now.graph.now in
    let node = rw c.in-Some.is at c.node_of.ensures in
    let found = rw (c.in-None-least_from.is, c.items.ensures) at c.least_from.ensures in
    over_node graph.resources graph.names c.is_valid.ensures.valid c.args.s.now.barred.now c.args.s.now.nodes
    c.args.vertex c.in-Some.node None c.requires node.0 node.1 found

pub returns-in-Some-least_from : goal.returns-in-Some-least_from
returns-in-Some-least_from g c =
    let graph = c.args.s.now.graph.now in
    let node = rw c.in-Some.is at c.node_of.ensures in
    let found = rw (c.in-Some-least_from.is, c.items.ensures) at c.least_from.ensures in
    over_node graph.resources graph.names c.is_valid.ensures.valid c.args.s.now.barred.now c.args.s.now.nodes
    c.args.vertex c.in-Some.node (Some c.in-Some-least_from.least) c.requires node.0 node.1 found
