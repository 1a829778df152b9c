use Rattle.std.proofs.Common.{inl, inr, arith}
use Rattle.graph_laws.proofs.Containment.{below_le}
use Rattle.graph_laws.proofs.Preorder.{parents_first}
use Rattle.dfu_match.specs.Tables.{needs_all}
use Rattle.dfu_match.specs.Pairs.{asked_totals}
use Rattle.dfu_match.proofs.AskSteps.{asked_clear, asked_room, asked_short, asked_within, short_dead}
use Rattle.dfu_match.proofs.AskSteps.{spread_or, need_inside}
use Rattle.dfu_match.proofs.RowLaws.{knows_put, none_row}
use Rattle.dfu_match.proofs.asking.ask_row.Goals as goal

pub top_above-requires-clause-vertex : goal.top_above-requires-clause-vertex
top_above-requires-clause-vertex g c = need_inside c.args.s.now.graph.now.resources.vertices c.args.need.now
    c.args.vertex c.requires.of_need

pub ask-row-requires-clause-vertex : goal.ask-row-requires-clause-vertex
ask-row-requires-clause-vertex g c = need_inside c.args.s.now.graph.now.resources.vertices c.args.need.now
    c.args.vertex c.requires.of_need

pub past-requires : goal.past-requires
past-requires g c = need_inside c.args.s.now.graph.now.resources.vertices c.args.need.now c.args.vertex
    c.requires.of_need

pub past-past-requires : goal.past-past-requires
past-past-requires g c =
    let graph = c.args.s.now.graph.now in
    let lt = need_inside graph.resources.vertices c.args.need.now c.args.vertex c.requires.of_need in
    let le = below_le graph.resources.vertices (parents_first graph.resources c.is_valid.ensures.valid.preorder)
    c.args.vertex c.in-Some.top c.in-Some.ensures.above.1 in
    omega (arith, lt, le)

pub returns-in-Some-clause-dead : goal.returns-in-Some-clause-dead
returns-in-Some-clause-dead g c = λ present stands w reach.
    let s = c.args.s.now in
    let graph = s.graph.now in
    short_dead graph.resources graph.names c.is_valid.ensures.valid present s.barred.now w
    (asked_totals s.wanted.now (g.F.FreeView.keeps s.view.now)) c.args.need.now c.requires.valid c.in-Some.top
    c.past-past.result c.past-past.ensures (c.in-Some.ensures.short present stands w reach)

pub returns-in-Some-clause-known : goal.returns-in-Some-clause-known
returns-in-Some-clause-known g c =
    let s = c.args.s.now in
    let graph = s.graph.now in
    let need = c.args.need.now in
    let lt = need_inside graph.resources.vertices need c.args.vertex c.requires.of_need in
    knows_put graph.resources.vertices (g.F.FreeView.stands_for s.view.now) s.barred.now s.needs.now s.window
    c.args.own _ c.args.known.now c.put.new.self need c.requires.of_own c.put.ensures.own c.put.ensures.put
    (none_row graph.resources.vertices (g.F.FreeView.stands_for s.view.now) s.barred.now s.window need c.args.vertex
    c.top_above.new.until c.in-Some.top c.past-past.result c.requires.of_need
    (below_le graph.resources.vertices (parents_first graph.resources c.is_valid.ensures.valid.preorder)
    c.args.vertex c.in-Some.top c.in-Some.ensures.above.1)
    (c.past-past.ensures.whole c.args.vertex lt c.in-Some.ensures.above.1)
    (λ present stands w reach. short_dead graph.resources graph.names c.is_valid.ensures.valid present s.barred.now w
    (asked_totals s.wanted.now (g.F.FreeView.keeps s.view.now)) need c.requires.valid c.in-Some.top
    c.past-past.result c.past-past.ensures (c.in-Some.ensures.short present stands w reach)))
    c.requires.known

pub returns-in-Some-clause-work : goal.returns-in-Some-clause-work
returns-in-Some-clause-work g c = λ present stands place at clear.
    let s = c.args.s.now in
    let graph = s.graph.now in
    let need = c.args.need.now in
    let lt = need_inside graph.resources.vertices need c.args.vertex c.requires.of_need in
    let above = c.in-Some.ensures.above in
    asked_short graph.resources graph.names c.is_valid.ensures.valid present s.window
    (asked_totals s.wanted.now (g.F.FreeView.keeps s.view.now)) (needs_all s.needs.now) need place
    (g.F.FreeView.cost s.view.now) at c.args.low c.args.vertex clear c.requires.low lt c.args.steps.now
    c.top_above.new.steps c.in-Some.top c.past-past.result above.0 above.1 (c.in-Some.ensures.clear present stands)
    c.past-past.ensures (c.in-Some.ensures.work present stands place at (clear c.args.vertex c.requires.low lt)).0

pub returns-in-None-clause-known : goal.returns-in-None-clause-known
returns-in-None-clause-known g c =
    let s = c.args.s.now in
    let graph = s.graph.now in
    knows_put graph.resources.vertices (g.F.FreeView.stands_for s.view.now) s.barred.now s.needs.now s.window
    c.args.own c.ask-row.result c.args.known.now c.put-in-None.new.self c.args.need.now c.requires.of_own
    c.put-in-None.ensures.own c.put-in-None.ensures.put c.ask-row.ensures.row c.requires.known

pub returns-in-None-clause-work : goal.returns-in-None-clause-work
returns-in-None-clause-work g c = λ present stands place at clear.
    let s = c.args.s.now in
    let graph = s.graph.now in
    let need = c.args.need.now in
    let valid = c.is_valid.ensures.valid in
    let keeps = asked_totals s.wanted.now (g.F.FreeView.keeps s.view.now) in
    let all = needs_all s.needs.now in
    let cost = g.F.FreeView.cost s.view.now in
    let lt = need_inside graph.resources.vertices need c.args.vertex c.requires.of_need in
    let over = c.in-None.ensures.clear present stands in
    let above = c.in-None.ensures.work present stands place at (clear c.args.vertex c.requires.low lt) in
    elim (spread_or need) [
      | inl spread ↦ asked_room graph.resources graph.names valid present s.window keeps all need place cost at
          c.args.low
          c.args.vertex clear c.requires.low lt over c.past.result c.past.ensures c.args.steps.now
          c.top_above.new.steps c.ask-row.new.steps (above.1 spread) (c.ask-row.ensures.copies spread)
      | inr plain ↦ asked_within graph.resources graph.names valid present s.window keeps all need place cost at
          c.args.low
          c.args.vertex clear c.requires.low lt over c.past.result c.past.ensures c.args.steps.now
          c.top_above.new.steps c.ask-row.new.steps plain above.0
          (c.ask-row.ensures.work present stands place c.past.result plain at
          (asked_clear graph.resources graph.names valid present s.window keeps all need place cost at c.args.low
          c.args.vertex clear c.requires.low lt over c.past.result c.past.ensures
          (c.in-None.ensures.own present stands plain)) c.past.ensures)
    ]
