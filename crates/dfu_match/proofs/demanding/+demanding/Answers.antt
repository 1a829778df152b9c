use Rattle.std.proofs.Common.{◌≡◌, ◌+◌, List, ◌∷◌, drop, ap, arith, ◌∙◌}
use Rattle.std.proofs.lemmas.List.{drop_all}
use Rattle.flux_defs.specs.declared.requests.Need.{Need}
use Rattle.prune_filters.specs.Demands.{one_if, capped}
use Rattle.dfu_match.proofs.CountLaws.{item_split}
use Rattle.dfu_match.proofs.DemandLaws.{capped_Vert, capped_Spread, demand_next, demand_end}
use Rattle.dfu_match.proofs.demanding.+demanding.Goals as goal

pub demand_of-returns-in-Vert : goal.demand_of-returns-in-Vert
demand_of-returns-in-Vert t c =
    rw c.in-Vert.is (capped_Vert c.args.kinds.now.graph.now.resources.vertices c.args.kind c.args.times c.in-Vert.own
    c.in-Vert.count c.in-Vert.hold c.in-Vert.needs c.demand_of_all.result c.saturating_add.result
    c.saturating_mul.result c.demand_of_all.ensures
    (c.saturating_add.ensures ∙ ap (λ n. capped (n + c.demand_of_all.result)) c.one_if.ensures)
    c.saturating_mul.ensures)

pub demand_of-returns-in-Spread : goal.demand_of-returns-in-Spread
demand_of-returns-in-Spread t c =
    rw c.in-Spread.is (capped_Spread c.args.kinds.now.graph.now.resources.vertices c.args.kind c.args.times
    c.in-Spread.count c.in-Spread.needs c.demand_of_all-in-Spread.result c.saturating_mul-copies.result
    c.saturating_add-in-Spread.result c.demand_of_all-in-Spread.ensures c.saturating_mul-copies.ensures
    (c.saturating_add-in-Spread.ensures ∙ ap (λ n. capped (n + c.saturating_mul-copies.result))
    (c.one_if-in-Spread.ensures ∙ ap one_if c.is_nodes.ensures)))

pub demand_of_all-loop-need-preserved : goal.demand_of_all-loop-need-preserved
demand_of_all-loop-need-preserved t c =
    let vs = c.args.kinds.now.graph.now.resources.vertices in
    let items : List Need = c.items-need-items.result.now in
    let i = c.loop-need.need-index in
    let need = c.need-item.result in
    let split : drop i items ≡ need ∷ drop (i + 1) items = item_split items i need c.loop-need-test.true
    c.need-item.is in
    record {
      small = (let e = c.saturating_add-total.ensures in omega arith);
      left = demand_next vs c.args.kind (drop i items) (drop (i + 1) items) need _ c.loop-need.total
          c.demand_of.result c.saturating_add-total.result split (rw (← c.amount.ensures) c.demand_of.ensures)
          c.saturating_add-total.ensures c.loop-need.invariant.left;
    }

pub demand_of_all-returns : goal.demand_of_all-returns
demand_of_all-returns t c =
    let vs = c.args.kinds.now.graph.now.resources.vertices in
    let items : List Need = c.items-need-items.result.now in
    demand_end vs c.args.kind (drop c.loop-need.need-index items) items c.args.needs.now c.loop-need.total
    (drop_all c.loop-need.need-index items c.loop-need-test.false) c.items-need-items.ensures
    c.loop-need.invariant.small c.loop-need.invariant.left
