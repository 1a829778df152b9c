use Rattle.std.proofs.Common.{◌+◌, List, [], ◌∷◌, take}
use Rattle.flux_defs.specs.declared.requests.Need.{Need}
use Rattle.dfu_match.specs.Tables.{all_of, needs_all, IsWantedBy}
use Rattle.dfu_match.proofs.DemandLaws as laws
use Rattle.dfu_match.proofs.wanting.+listing.Goals as goal

pub list_all-loop-need-preserved : goal.list_all-loop-need-preserved
list_all-loop-need-preserved t c =
    let items : List Need = c.items-need-items.result.now in
    let i = c.loop-need.need-index in
    laws.grows_both (IsWantedBy c.args.kinds.now.graph.now.resources.vertices) (needs_all (take i items))
    (all_of c.need-item.result) (needs_all (take (i + 1) items)) c.args.table.now.items c.loop-need.table.items
    c.list_one.new.table.items
    (laws.all_next items i c.need-item.result c.loop-need-test.true c.need-item.is) c.loop-need.invariant
    c.in_ok-list_one.ensures

pub list_one-returns-in_ok-list_all-in-Vert : goal.list_one-returns-in_ok-list_all-in-Vert
list_one-returns-in_ok-list_all-in-Vert t c =
    let P = IsWantedBy c.args.kinds.now.graph.now.resources.vertices in
    laws.grows_both P (c.args.need.now ∷ []) (needs_all c.in-Vert.needs) (all_of c.args.need.now)
    c.args.table.now.items c.push.new.items.items c.list_all.new.table.items
    (rw c.in-Vert.is (laws.all_Vert c.in-Vert.kind c.in-Vert.count c.in-Vert.hold c.in-Vert.needs))
    (laws.grows_one P c.args.need.now c.in_ok-wanted.wanted c.args.table.now.items c.push.new.items.items
    c.in_ok-push.ensures.ok c.in_ok-wanted.ensures) c.in_ok-list_all-in-Vert.ensures

pub list_one-returns-in_ok-list_all-in-Spread : goal.list_one-returns-in_ok-list_all-in-Spread
list_one-returns-in_ok-list_all-in-Spread t c =
    let P = IsWantedBy c.args.kinds.now.graph.now.resources.vertices in
    laws.grows_both P (c.args.need.now ∷ []) (needs_all c.in-Spread.needs) (all_of c.args.need.now)
    c.args.table.now.items c.push.new.items.items c.list_all-in-Spread.new.table.items
    (rw c.in-Spread.is (laws.all_Spread c.in-Spread.count c.in-Spread.needs))
    (laws.grows_one P c.args.need.now c.in_ok-wanted.wanted c.args.table.now.items c.push.new.items.items
    c.in_ok-push.ensures.ok c.in_ok-wanted.ensures) c.in_ok-list_all-in-Spread.ensures
