use Rattle.std.proofs.Common.{sym}
use Rattle.dfu_match.proofs.BarLaws.{below_none, below_some}
use Rattle.dfu_match.proofs.search.bars_below.Goals as goal

pub returns-in-None : goal.returns-in-None
returns-in-None g c =
    let graph = c.args.s.now.graph.now in
    let found = rw (c.in-None.is, c.items.ensures) at c.least_from.ensures in
    sym (below_none graph.resources graph.names c.is_valid.ensures.valid c.args.s.now.barred.now c.args.s.now.nodes
    c.args.vertex found)

pub returns-in-Some : goal.returns-in-Some
returns-in-Some g c =
    let graph = c.args.s.now.graph.now in
    let found = rw (c.in-Some.is, c.items.ensures) at c.least_from.ensures in
    below_some graph.resources graph.names c.is_valid.ensures.valid c.args.s.now.barred.now c.args.s.now.nodes
    c.args.vertex c.past.result c.in-Some.lower c.past.ensures found
