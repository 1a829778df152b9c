use Rattle.std.proofs.Common.{◌≡◌, ◌+◌, ◌∷◌, List, drop, sym, subst}
use Rattle.std.proofs.lemmas.List.{drop_all}
use Rattle.std.specs.List.{AllByRecursion}
use Rattle.flux_defs.specs.declared.requests.Need.{Need}
use Rattle.flux_defs.specs.Needs.{HasNoSpread}
use Rattle.flux_laws.proofs.Rows.{no_spread_to_row}
use Rattle.dfu_match.proofs.CountLaws.{item_split}
use Rattle.dfu_match.proofs.spreads.+seeking.Goals as goal

pub has_none-returns-in-Vert : goal.has_none-returns-in-Vert
has_none-returns-in-Vert t c = λ is. rw c.in-Vert.is (no_spread_to_row c.in-Vert.needs (c.have_none.ensures is))

pub have_none-loop-need-preserved : goal.have_none-loop-need-preserved
have_none-loop-need-preserved t c = λ rest.
    let items : List Need = c.items-need-items.result.now in
    let i = c.loop-need.need-index in
    let split : drop i items ≡ c.need-item.result ∷ drop (i + 1) items =
    item_split items i c.need-item.result c.loop-need-test.true c.need-item.is in
    c.loop-need.invariant (subst (AllByRecursion HasNoSpread) (sym split)
    (c.has_none.ensures c.if-not-has_none.false, rest))

pub have_none-returns : goal.have_none-returns
have_none-returns t c = λ is.
    let items : List Need = c.items-need-items.result.now in
    let end = drop_all c.loop-need.need-index items c.loop-need-test.false in
    subst (AllByRecursion HasNoSpread) c.items-need-items.ensures
    (c.loop-need.invariant (subst (AllByRecursion HasNoSpread) (sym end) tt))
