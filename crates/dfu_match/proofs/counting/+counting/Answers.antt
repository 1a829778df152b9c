use Rattle.std.proofs.Common.{arith, rules, ◌≡◌, ◌+◌, ◌*◌, ◌<◌, ◌≤◌, ◌^◌, List, ◌∷◌, length, take, drop, refl, sym, ◌∙◌}
use Rattle.std.proofs.Common.{inl, inr, false, true≢false}
use Rattle.std.proofs.lemmas.List.{drop_all}
use denote.Param.Weighed.{most}
use Rattle.flux_defs.specs.declared.claims.Claim.{Claim}
use Rattle.flux_defs.specs.declared.requests.Need.{Need}
use Rattle.flux_defs.proofs.requests.Need.TheLaws.{the_size}
use Rattle.flux_defs.specs.Graph.{Beneath}
use Rattle.flux_defs.specs.Needs.{amount_of, AreValidNeeds}
use Rattle.flux_laws.proofs.Takes.{takes_less}
use Rattle.flux_laws.proofs.FitLaws.{serves_less}
use Rattle.match_laws.proofs.Walk.{reached_start, reached_over, reached_next, reached_all, reached_end}
use Rattle.match_laws.proofs.NeedLists.{greatest_along, group_to, group_from}
use Rattle.match_laws.proofs.ViewLaws.{available_take}
use Rattle.match_laws.proofs.Sizes.{size_Vert, size_Spread, size_item}
use Rattle.prune_laws.proofs.Demanded.{amount_some}
use Rattle.dfu_match.specs.Searches.{open_to, meets, scope_of}
use Rattle.dfu_match.proofs.ReachLaws.{over_own}
use Rattle.dfu_match.proofs.ScopeLaws.{none_before, none_skipped, none_after, none_at_all, found}
use Rattle.dfu_match.specs.Tables.{needs_all}
use Rattle.dfu_match.proofs.TableLaws as tables
use Rattle.dfu_match.proofs.CountLaws as laws
use Rattle.dfu_match.proofs.HoldLaws.{admitted_open}
use Rattle.dfu_match.specs.Tables.{all_of}
use Rattle.dfu_match.specs.Pairs.{IsClearScope, asked_totals}
use Rattle.dfu_match.proofs.OpenLaws.{none_inside, span_same}
use Rattle.dfu_match.proofs.PairLaws.{takes_none}
use Rattle.dfu_match.proofs.StepLaws as steps
use Rattle.dfu_match.proofs.counting.+counting.Goals as goal

pub copies-reach-reached-requires : goal.copies-reach-reached-requires
copies-reach-reached-requires g t c κs h =
    let items : List Need = c.items-need-items.result.now in
    let i = c.loop-need.need-index in
    let need = c.need-item.result in
    let split : drop i items ≡ need ∷ drop (i + 1) items = laws.item_split items i need c.loop-need-test.true
    c.need-item.is in
    let valid : AreValidNeeds c.args.s.now.graph.now.resources.vertices items = rw c.items-need-items.ensures
    c.requires.valid in
    let small : amount_of need < 2 ^ 64 = rw (← c.amount-amount.ensures) c.amount-amount.type_inv in
    let size : the_size need ≤ most the_size c.args.needs.now = size_item c.args.needs.now i need (drop (i + 1) items)
    (rw (← c.items-need-items.ensures) split) in (
      omega (arith, size, c.decreases),
      (
        search rules,
        (
          search rules,
          (
            tables.stand_first (needs_all c.args.s.now.needs.now) c.args.s.now.wanted.now c.loop-need.at (drop i items)
                (drop (i + 1) items) need split c.loop-need.invariant.stand,
            (
              c.requires.scope,
              (
                c.requires.open,
                (
                  laws.valid_at c.args.s.now.graph.now.resources.vertices items i need (drop (i + 1) items) split
                      valid,
                  rw (c.from.ensures, c.from-in-loop-need.ensures, c.amount-amount.ensures)
                      (laws.may_ask_at c.args.most c.loop-need.best items i need (drop (i + 1) items)
                      c.loop-need.invariant.within split small (rw c.items-need-items.ensures c.requires.may)),
                ),
              ),
            ),
          ),
        ),
      ),
    )

pub copies-index_after-at-requires : goal.copies-index_after-at-requires
copies-index_after-at-requires g t c =
    let items : List Need = c.items-need-items.result.now in
    let i = c.loop-need.need-index in
    let need = c.need-item.result in
    let split : drop i items ≡ need ∷ drop (i + 1) items = laws.item_split items i need c.loop-need-test.true
    c.need-item.is in
    record {
      stands = tables.stand_first (needs_all c.args.s.now.needs.now) c.args.s.now.wanted.now c.loop-need.at
          (drop i items) (drop (i + 1) items) need split c.loop-need.invariant.stand;
    }

pub copies-loop-need-init : goal.copies-loop-need-init
copies-loop-need-init g t c = record {
  stand = rw c.items-need-items.ensures c.requires.stand;
  within = omega arith;
  enough = λ present stands k le each. each;
  full = λ present stands lt. absurd (omega arith);
  taken = λ present stands place from to at clear span. takes_none _ _ c.args.steps.now place (place + 0) from to;
}

pub copies-whole_times-best-requires-clause-some : goal.copies-whole_times-best-requires-clause-some
copies-whole_times-best-requires-clause-some g t c =
    let items : List Need = c.items-need-items.result.now in
    let i = c.loop-need.need-index in
    let need = c.need-item.result in
    let split : drop i items ≡ need ∷ drop (i + 1) items = laws.item_split items i need c.loop-need-test.true
    c.need-item.is in
    let valid : AreValidNeeds c.args.s.now.graph.now.resources.vertices items = rw c.items-need-items.ensures
    c.requires.valid in
    rw c.amount-amount.ensures (amount_some c.args.s.now.graph.now.resources.vertices need
    (laws.valid_at c.args.s.now.graph.now.resources.vertices items i need (drop (i + 1) items) split valid))

pub copies-returns-then-best-eq0-clause-greatest : goal.copies-returns-then-best-eq0-clause-greatest
copies-returns-then-best-eq0-clause-greatest g t c = λ present stands.
    let vs = c.args.s.now.graph.now.resources.vertices in
    let ok : Claim → Type 0 = open_to vs present c.args.s.now.barred.now c.args.s.now.window in
    let items : List Need = c.items-need-items.result.now in
    let i = c.loop-need.need-index in
    let need = c.need-item.result in
    let split : drop i items ≡ need ∷ drop (i + 1) items = laws.item_split items i need c.loop-need-test.true
    c.need-item.is in
    let greatest = rw (c.from.ensures, c.from-in-loop-need.ensures, c.amount-amount.ensures) at
    (c.reach-reached.ensures.greatest present stands) in
    let high = rw c.amount-amount.ensures at c.whole_times-best.ensures.high in
    laws.copies_none vs ok (scope_of c.args.scope) items c.args.needs.now c.args.most c.whole_times-best.result
    c.items-need-items.ensures c.if-best-eq0.true
    (laws.full_next vs ok (takes_less _ _) (scope_of c.args.scope) items i need (drop (i + 1) items) c.args.most
    c.loop-need.best c.reach-reached.result c.whole_times-best.result split greatest high
    c.whole_times-best.ensures.within (c.loop-need.invariant.full present stands))

pub copies-loop-need-preserved : goal.copies-loop-need-preserved
copies-loop-need-preserved g t c =
    let vs = c.args.s.now.graph.now.resources.vertices in
    let items : List Need = c.items-need-items.result.now in
    let i = c.loop-need.need-index in
    let need = c.need-item.result in
    let split : drop i items ≡ need ∷ drop (i + 1) items = laws.item_split items i need c.loop-need-test.true
    c.need-item.is in
    let low = rw c.amount-amount.ensures at c.whole_times-best.ensures.low in
    let high = rw c.amount-amount.ensures at c.whole_times-best.ensures.high in
    record {
      stand = tables.stand_next (needs_all c.args.s.now.needs.now) c.args.s.now.wanted.now c.loop-need.at
          c.index_after-at.result (drop i items) (drop (i + 1) items) need split c.index_after-at.ensures
          c.loop-need.invariant.stand;
      within = (let few = c.whole_times-best.ensures.within in let before = c.loop-need.invariant.within in
          omega arith);
      enough = λ present stands.
          let ok : Claim → Type 0 = open_to vs present c.args.s.now.barred.now c.args.s.now.window in
          let greatest = rw (c.from.ensures, c.from-in-loop-need.ensures, c.amount-amount.ensures) at
          (c.reach-reached.ensures.greatest present stands) in
          laws.enough_next vs ok (takes_less _ _) (scope_of c.args.scope) items i need (drop (i + 1) items)
          c.loop-need.best c.reach-reached.result c.whole_times-best.result split greatest low
          c.whole_times-best.ensures.within (c.loop-need.invariant.enough present stands);
      full = λ present stands.
          let ok : Claim → Type 0 = open_to vs present c.args.s.now.barred.now c.args.s.now.window in
          let greatest = rw (c.from.ensures, c.from-in-loop-need.ensures, c.amount-amount.ensures) at
          (c.reach-reached.ensures.greatest present stands) in
          laws.full_next vs ok (takes_less _ _) (scope_of c.args.scope) items i need (drop (i + 1) items) c.args.most
          c.loop-need.best c.reach-reached.result c.whole_times-best.result split greatest high
          c.whole_times-best.ensures.within (c.loop-need.invariant.full present stands);
      taken = λ present stands place from to at clear span.
          let all = needs_all c.args.s.now.needs.now in
          let each = (length all + 2) * g.F.FreeView.cost c.args.s.now.view.now in
          let keeps = asked_totals c.args.s.now.wanted.now (g.F.FreeView.keeps c.args.s.now.view.now) in
          let before = length (needs_all (take i items)) in
          let here = tables.place_first all (place + before) (drop i items) (drop (i + 1) items) need split
          (tables.place_from all i place items at) in
          let scope = laws.each_at (IsClearScope vs present c.args.s.now.window keeps c.args.scope) items i need
          (drop (i + 1) items) split clear in
          steps.listed_next _ each c.args.steps.now c.loop-need.steps c.reach-reached.new.steps place from to items
          (drop (i + 1) items) i need c.loop-need-test.true c.need-item.is
          (c.loop-need.invariant.taken present stands place from to at clear span)
          (c.reach-reached.ensures.work present stands (place + before) from to here scope span);
    }

pub copies-returns-then-best-eq0-clause-work : goal.copies-returns-then-best-eq0-clause-work
copies-returns-then-best-eq0-clause-work g t c =
    let vs = c.args.s.now.graph.now.resources.vertices in
    let items : List Need = c.items-need-items.result.now in
    let i = c.loop-need.need-index in
    let need = c.need-item.result in
    let split : drop i items ≡ need ∷ drop (i + 1) items = laws.item_split items i need c.loop-need-test.true
    c.need-item.is in
    rw (← c.items-need-items.ensures) (λ present stands place from to at clear span.
    steps.listed_end _ ((length (needs_all c.args.s.now.needs.now) + 2) * g.F.FreeView.cost c.args.s.now.view.now)
    c.args.steps.now c.reach-reached.new.steps place from to items (i + 1)
    (let all = needs_all c.args.s.now.needs.now in
    let each = (length all + 2) * g.F.FreeView.cost c.args.s.now.view.now in
    let keeps = asked_totals c.args.s.now.wanted.now (g.F.FreeView.keeps c.args.s.now.view.now) in
    let before = length (needs_all (take i items)) in
    let here = tables.place_first all (place + before) (drop i items) (drop (i + 1) items) need split
    (tables.place_from all i place items at) in
    let scope = laws.each_at (IsClearScope vs present c.args.s.now.window keeps c.args.scope) items i need
    (drop (i + 1) items) split clear in
    steps.listed_next _ each c.args.steps.now c.loop-need.steps c.reach-reached.new.steps place from to items
    (drop (i + 1) items) i need c.loop-need-test.true c.need-item.is
    (c.loop-need.invariant.taken present stands place from to at clear span)
    (c.reach-reached.ensures.work present stands (place + before) from to here scope span)))

pub copies-returns-clause-work : goal.copies-returns-clause-work
copies-returns-clause-work g t c =
    let items : List Need = c.items-need-items.result.now in
    rw (← c.items-need-items.ensures) (λ present stands place from to at clear span.
    steps.listed_end _ ((length (needs_all c.args.s.now.needs.now) + 2) * g.F.FreeView.cost c.args.s.now.view.now)
    c.args.steps.now c.loop-need.steps place from to items c.loop-need.need-index
    (c.loop-need.invariant.taken present stands place from to at clear span))

pub copies-returns-clause-greatest : goal.copies-returns-clause-greatest
copies-returns-clause-greatest g t c = λ present stands.
    let vs = c.args.s.now.graph.now.resources.vertices in
    let ok : Claim → Type 0 = open_to vs present c.args.s.now.barred.now c.args.s.now.window in
    let items : List Need = c.items-need-items.result.now in
    laws.copies_end vs ok (scope_of c.args.scope) items c.args.needs.now (drop c.loop-need.need-index items)
    c.args.most c.loop-need.best c.items-need-items.ensures
    (drop_all c.loop-need.need-index items c.loop-need-test.false) c.loop-need.invariant.within
    (c.loop-need.invariant.enough present stands) (c.loop-need.invariant.full present stands)

pub reach-returns-in_default-clause-greatest : goal.reach-returns-in_default-clause-greatest
reach-returns-in_default-clause-greatest g t c = λ present stands.
    let vs = c.args.s.now.graph.now.resources.vertices in
    let ok : Claim → Type 0 = open_to vs present c.args.s.now.barred.now c.args.s.now.window in
    let scope = scope_of c.args.scope in
    let need = c.args.need.now in
    let never = none_at_all vs ok scope need c.in_default.ensures in
    greatest_along _ _ c.args.most 0 (group_from vs ok scope need) (group_to vs ok scope need)
    (reached_end _ (serves_less vs ok (takes_less _ _) scope need) c.args.most 0 0 (λ v q lo some can. never v q can)
    (reached_start _ (serves_less vs ok (takes_less _ _) scope need) c.args.most 0
    (λ v q lo hi some can. never v q can)))

pub reach-returns-then-serves_one_each-clause-work : goal.reach-returns-then-serves_one_each-clause-work
reach-returns-then-serves_one_each-clause-work g t c = λ present stands place from to at clear span.
    takes_none _ ((length (needs_all c.args.s.now.needs.now) + 2) * g.F.FreeView.cost c.args.s.now.view.now)
    c.args.steps.now place (place + length (all_of c.args.need.now)) from to

pub reach-loop-reached-init : goal.reach-loop-reached-init
reach-loop-reached-init g t c =
    let vs = c.args.s.now.graph.now.resources.vertices in
    record {
      within = omega arith;
      from = omega arith;
      reached = λ present stands.
          let ok : Claim → Type 0 = open_to vs present c.args.s.now.barred.now c.args.s.now.window in
          let scope = scope_of c.args.scope in
          reached_start _ (serves_less vs ok (takes_less _ _) scope c.args.need.now) c.args.most
          c.span_of-span.result.from
          (none_before vs ok scope c.args.need.now c.span_of-span.result.from c.span_of-span.result.to
          c.span_of-span.ensures.covers);
      walked = λ present stands place at clear.
          let s = c.args.s.now in
          steps.walked_start s.graph.now.resources s.graph.now.names c.is_valid.ensures.valid present s.window
          (asked_totals s.wanted.now (g.F.FreeView.keeps s.view.now)) (needs_all s.needs.now) c.args.need.now place
          ((length (needs_all s.needs.now) + 2) * g.F.FreeView.cost s.view.now) c.args.scope c.args.steps.now
          c.span_of-span.result.from c.span_of-span.result.to c.span_of-span.ensures.span c.span_of-span.ensures.within
          clear;
    }

pub reach-returns-in_default-next_open_until-clause-greatest :
    goal.reach-returns-in_default-next_open_until-clause-greatest
reach-returns-in_default-next_open_until-clause-greatest g t c = λ present stands.
    let vs = c.args.s.now.graph.now.resources.vertices in
    let ok : Claim → Type 0 = open_to vs present c.args.s.now.barred.now c.args.s.now.window in
    let scope = scope_of c.args.scope in
    let need = c.args.need.now in
    greatest_along _ _ c.args.most c.loop-reached.reached (group_from vs ok scope need) (group_to vs ok scope need)
    (reached_end _ (serves_less vs ok (takes_less _ _) scope need) c.args.most c.loop-reached.at c.loop-reached.reached
    (none_after vs ok scope need c.span_of-span.result.from c.loop-reached.at c.span_of-span.result.to
    c.span_of-span.ensures.covers (over_own c.args.s.now.window c.next_open_until.new.until
    c.in_default-next_open_until.ensures.falls c.args.s.now.opens _
    (c.in_default-next_open_until.ensures.skipped present stands)))
    (c.loop-reached.invariant.reached present stands))

pub reach-loop-reached-preserved : goal.reach-loop-reached-preserved
reach-loop-reached-preserved g t c =
    let s = c.args.s.now in
    let graph = s.graph.now in
    let vs = graph.resources.vertices in
    let need = c.args.need.now in
    let v = c.in-Some-next_open_until.vertex in
    let of_kind = rw c.in-Some.is at c.kind_of.ensures in
    let next = rw c.in-Some-next_open_until.is at c.next_open_until.ensures.of_kind in
    let low = next.1 in
    let past = c.past-at.ensures in
    let later = past.later in
    let is = found vs (λ claim. ⊥) (scope_of c.args.scope) need c.in-Some.kind c.span_of-span.result.from
    c.loop-reached.at c.span_of-span.result.to v c.span_of-span.ensures.covers
    c.loop-reached.invariant.from c.span_of-span.ensures.within of_kind next in
    record {
      within = (let few = c.serves.ensures.within in let same = c.from-reached.ensures in
          let before = c.loop-reached.invariant.within in omega arith);
      from = (let before = c.loop-reached.invariant.from in omega (arith, before, low, later));
      reached = λ present stands.
          let ok : Claim → Type 0 = open_to vs present s.barred.now s.window in
          let scope = scope_of c.args.scope in
          reached_over _ (serves_less vs ok (takes_less _ _) scope need) c.args.most (v + 1) c.past-at.result
          (c.loop-reached.reached + c.from-reached.result) (omega (arith, later))
          (none_skipped vs ok scope need (v + 1) c.past-at.result
          (none_inside graph.resources graph.names c.is_valid.ensures.valid ok need c.in-Some.kind v c.past-at.result
          of_kind next.0 past))
          (reached_next _ (serves_less vs ok (takes_less _ _) scope need) c.args.most v
          c.loop-reached.reached c.from-reached.result
          (reached_over _ (serves_less vs ok (takes_less _ _) scope need) c.args.most c.loop-reached.at
          v c.loop-reached.reached low
          (none_skipped vs ok scope need c.loop-reached.at v
          (rw c.in-Some-next_open_until.is at (over_own s.window c.next_open_until.new.until
          c.next_open_until.ensures.falls s.opens _ (c.next_open_until.ensures.skipped present stands))))
          (c.loop-reached.invariant.reached present stands))
          (rw c.from-reached.ensures (c.serves.ensures.greatest present stands scope is.1)));
      walked = λ present stands place at clear.
          let keeps = asked_totals s.wanted.now (g.F.FreeView.keeps s.view.now) in
          let all = needs_all s.needs.now in
          let cost = g.F.FreeView.cost s.view.now in
          let before = c.loop-reached.invariant.walked present stands place at clear in
          let alone = rw c.in-Some-next_open_until.is at (c.next_open_until.ensures.clear present stands before.clear)
          in
          let walk = rw c.in-Some-next_open_until.is at
          (c.next_open_until.ensures.work present stands place at before.clear) in
          steps.walked_next graph.resources graph.names c.is_valid.ensures.valid present s.window keeps all need place
          ((length all + 2) * cost) c.args.scope (length (all_of need) * cost) (2 * cost) c.args.steps.now
          c.loop-reached.steps c.next_open_until.new.steps c.serves.new.steps c.span_of-span.result.from
          c.loop-reached.at
          c.span_of-span.result.to v c.past-at.result c.span_of-span.ensures.span c.span_of-span.ensures.within at
          (steps.look_costs (length (all_of need)) (length all) cost (tables.place_few all place need at)) before low
          next.2 alone past walk (c.serves.ensures.work present stands place c.past-at.result at alone past);
    }

pub reach-returns-in_default-next_open_until-clause-work : goal.reach-returns-in_default-next_open_until-clause-work
reach-returns-in_default-next_open_until-clause-work g t c = λ present stands place from to at clear span.
    let s = c.args.s.now in
    let graph = s.graph.now in
    let need = c.args.need.now in
    let keeps = asked_totals s.wanted.now (g.F.FreeView.keeps s.view.now) in
    let all = needs_all s.needs.now in
    let cost = g.F.FreeView.cost s.view.now in
    let same = span_same graph.resources graph.names c.is_valid.ensures.valid c.args.scope from to
    c.span_of-span.result.from c.span_of-span.result.to span c.span_of-span.ensures.span in
    let before = c.loop-reached.invariant.walked present stands place at clear in
    let walk = c.in_default-next_open_until.ensures.work present stands place at before.clear in
    let enough = steps.look_costs (length (all_of need)) (length all) cost (tables.place_few all place need at) in
    rw (same.0, same.1) (steps.walked_none graph.resources graph.names c.is_valid.ensures.valid present s.window keeps
    all need place
    ((length all + 2) * cost) (length (all_of need) * cost) c.args.steps.now c.loop-reached.steps
    c.next_open_until.new.steps c.span_of-span.result.from c.loop-reached.at c.span_of-span.result.to
    (omega (arith, enough)) before walk)

pub reach-returns-clause-work : goal.reach-returns-clause-work
reach-returns-clause-work g t c = λ present stands place from to at clear span.
    let s = c.args.s.now in
    let graph = s.graph.now in
    let all = needs_all s.needs.now in
    let same = span_same graph.resources graph.names c.is_valid.ensures.valid c.args.scope from to
    c.span_of-span.result.from c.span_of-span.result.to span c.span_of-span.ensures.span in
    rw (same.0, same.1) (steps.walked_end graph.resources graph.names c.is_valid.ensures.valid present s.window
    (asked_totals s.wanted.now (g.F.FreeView.keeps s.view.now)) all c.args.need.now place
    ((length all + 2) * g.F.FreeView.cost s.view.now) c.args.steps.now c.loop-reached.steps
    c.span_of-span.result.from c.loop-reached.at c.span_of-span.result.to
    (c.loop-reached.invariant.walked present stands place at clear))

pub reach-returns-clause-greatest : goal.reach-returns-clause-greatest
reach-returns-clause-greatest g t c = λ present stands.
    let vs = c.args.s.now.graph.now.resources.vertices in
    let ok : Claim → Type 0 = open_to vs present c.args.s.now.barred.now c.args.s.now.window in
    let scope = scope_of c.args.scope in
    let need = c.args.need.now in
    greatest_along _ _ c.args.most c.loop-reached.reached (group_from vs ok scope need) (group_to vs ok scope need)
    (reached_all _ (serves_less vs ok (takes_less _ _) scope need) c.args.most c.loop-reached.at
    c.loop-reached.reached c.loop-reached-test.false (c.loop-reached.invariant.reached present stands))

pub serves-returns-then-not-admits-clause-greatest : goal.serves-returns-then-not-admits-clause-greatest
serves-returns-then-not-admits-clause-greatest g t c = λ present stands scope within.
    let vs = c.args.s.now.graph.now.resources.vertices in
    let ok : Claim → Type 0 = open_to vs present c.args.s.now.barred.now c.args.s.now.window in
    let none = laws.vertex_closed vs ok scope c.in-Vert.kind c.in-Vert.count c.in-Vert.hold c.in-Vert.needs
    c.args.vertex c.args.most
    (λ may. true≢false (sym ((c.admits.ensures.answer present stands).1 may) ∙ c.if-not-admits.true)) in
    rw c.in-Vert.is none

pub serves-copies-requires : goal.serves-copies-requires
serves-copies-requires g t c κs h =
    let vs = c.args.s.now.graph.now.resources.vertices in
    let lt : most the_size c.in-Vert.needs < the_size c.args.need.now =
    rw c.in-Vert.is (size_Vert c.in-Vert.kind c.in-Vert.count c.in-Vert.hold c.in-Vert.needs) in (
      omega (arith, lt, c.decreases),
      (
        search rules,
        (
          search rules,
          (
            tables.inside_Vert (needs_all c.args.s.now.needs.now) c.args.s.now.wanted.now c.args.index
                c.index_within.result c.in-Vert.kind c.in-Vert.count c.in-Vert.hold c.in-Vert.needs
                c.index_within.ensures (rw c.in-Vert.is at c.requires.stands),
            (
              c.requires.vertex,
              (
                λ present stands. admitted_open (meets vs present c.args.s.now.barred.now) c.args.s.now.window
                    c.args.vertex
                    c.in-Vert.hold ((c.admits.ensures.answer present stands).0 c.if-not-admits.false),
                (
                  laws.valid_inside vs c.in-Vert.kind c.in-Vert.count c.in-Vert.hold c.in-Vert.needs
                      (rw c.in-Vert.is at c.requires.valid),
                  inl refl,
                ),
              ),
            ),
          ),
        ),
      ),
    )

pub serves-copies-requires-in-Spread : goal.serves-copies-requires-in-Spread
serves-copies-requires-in-Spread g t c κs h =
    let vs = c.args.s.now.graph.now.resources.vertices in
    let lt : most the_size c.in-Spread.needs < the_size c.args.need.now =
    rw c.in-Spread.is (size_Spread c.in-Spread.count c.in-Spread.needs) in
    let valid = rw c.in-Spread.is at c.requires.valid in (
      omega (arith, lt, c.decreases),
      (
        search rules,
        (
          search rules,
          (
            tables.inside_Spread (needs_all c.args.s.now.needs.now) c.args.s.now.wanted.now c.args.index
                c.index_within-in-Spread.result c.in-Spread.count c.in-Spread.needs c.index_within-in-Spread.ensures
                (rw c.in-Spread.is at c.requires.stands),
            (
              c.requires.vertex,
              (
                λ present stands. admitted_open (meets vs present c.args.s.now.barred.now) c.args.s.now.window
                    c.args.vertex
                    false ((c.admits-in-Spread.ensures.answer present stands).0 c.if-not-admits-2.false),
                (
                  laws.valid_copy vs c.in-Spread.count c.in-Spread.needs valid,
                  inr (laws.plain_copy vs c.in-Spread.count c.in-Spread.needs valid),
                ),
              ),
            ),
          ),
        ),
      ),
    )

pub serves-returns-then-is_empty-clause-greatest : goal.serves-returns-then-is_empty-clause-greatest
serves-returns-then-is_empty-clause-greatest g t c = λ present stands scope within.
    let vs = c.args.s.now.graph.now.resources.vertices in
    let ok : Claim → Type 0 = open_to vs present c.args.s.now.barred.now c.args.s.now.window in
    let is = rw c.in-Vert.is at c.requires.of_need in
    let one = laws.vertex_open vs ok scope c.in-Vert.kind c.in-Vert.count c.in-Vert.hold c.in-Vert.needs c.args.vertex
    c.args.most 1 c.requires.some within is ((c.admits.ensures.answer present stands).0 c.if-not-admits.false)
    (laws.nothing_asked vs ok (Beneath c.args.vertex) c.in-Vert.needs (c.if-is_empty.ensures.0 refl)) in
    rw c.in-Vert.is one

pub serves-returns-else-is_empty-clause-greatest : goal.serves-returns-else-is_empty-clause-greatest
serves-returns-else-is_empty-clause-greatest g t c = λ present stands scope within.
    let vs = c.args.s.now.graph.now.resources.vertices in
    let ok : Claim → Type 0 = open_to vs present c.args.s.now.barred.now c.args.s.now.window in
    let is = rw c.in-Vert.is at c.requires.of_need in
    let one = laws.vertex_open vs ok scope c.in-Vert.kind c.in-Vert.count c.in-Vert.hold c.in-Vert.needs c.args.vertex
    c.args.most c.copies.result c.requires.some within is
    ((c.admits.ensures.answer present stands).0 c.if-not-admits.false) (c.copies.ensures.greatest present stands) in
    rw c.in-Vert.is one

pub serves-returns-in-Pool-clause-greatest : goal.serves-returns-in-Pool-clause-greatest
serves-returns-in-Pool-clause-greatest g t c = λ present stands scope within.
    let vs = c.args.s.now.graph.now.resources.vertices in
    let ok : Claim → Type 0 = open_to vs present c.args.s.now.barred.now c.args.s.now.window in
    let is = rw c.in-Pool.is at c.requires.of_need in
    let some = laws.pool_serves vs ok scope c.in-Pool.kind c.in-Pool.quantity c.args.vertex c.args.most c.free.result
    c.min.result within is
    (λ q. available_take (meets vs present c.args.s.now.barred.now) c.args.s.now.window c.args.vertex q c.free.result
    (c.free.ensures.answer present stands)) (rw c.from.ensures at c.min.ensures) in
    rw c.in-Pool.is some

pub serves-returns-then-not-admits-2-clause-greatest : goal.serves-returns-then-not-admits-2-clause-greatest
serves-returns-then-not-admits-2-clause-greatest g t c = λ present stands scope within.
    let vs = c.args.s.now.graph.now.resources.vertices in
    let ok : Claim → Type 0 = open_to vs present c.args.s.now.barred.now c.args.s.now.window in
    let none = laws.node_closed vs ok scope c.in-Spread.count c.in-Spread.needs c.args.vertex c.args.most
    (λ may. true≢false (sym ((c.admits-in-Spread.ensures.answer present stands).1 may) ∙ c.if-not-admits-2.true)) in
    rw c.in-Spread.is none

pub serves-returns-else-not-admits-2-clause-greatest : goal.serves-returns-else-not-admits-2-clause-greatest
serves-returns-else-not-admits-2-clause-greatest g t c = λ present stands scope within.
    let vs = c.args.s.now.graph.now.resources.vertices in
    let ok : Claim → Type 0 = open_to vs present c.args.s.now.barred.now c.args.s.now.window in
    let is = rw c.in-Spread.is at c.requires.of_need in
    let some = laws.node_open vs ok scope c.in-Spread.count c.in-Spread.needs c.args.vertex c.args.most
    c.copies-in-Spread.result within is
    ((c.admits-in-Spread.ensures.answer present stands).0 c.if-not-admits-2.false)
    (c.copies-in-Spread.ensures.greatest present stands) in
    rw c.in-Spread.is some

pub serves-returns-else-is_empty-clause-work : goal.serves-returns-else-is_empty-clause-work
serves-returns-else-is_empty-clause-work g t c = λ present stands place past.
    rw c.in-Vert.is (λ at clear after.
    let within = steps.in_vertex _ _ c.is_valid.ensures.valid present _ _ (needs_all c.args.s.now.needs.now) place _ _
    _ _ _
    (rw c.in-Vert.is at c.requires.valid) at clear in
    steps.takes_later _ _ _ _ _ _ _ _ _ _ c.admits.ensures.work
    (steps.after_Vert place c.in-Vert.kind c.in-Vert.count c.in-Vert.hold c.in-Vert.needs)
    (c.copies.ensures.work present stands (place + 1) (c.args.vertex + 1) past within.0 within.1 (refl, after)))

pub serves-returns-else-not-admits-2-clause-work : goal.serves-returns-else-not-admits-2-clause-work
serves-returns-else-not-admits-2-clause-work g t c = λ present stands place past.
    rw c.in-Spread.is (λ at clear after.
    let within = steps.in_copy _ _ c.is_valid.ensures.valid present _ _ (needs_all c.args.s.now.needs.now) place _ _ _
    (rw c.in-Spread.is at c.requires.valid) at clear in
    steps.takes_later _ _ _ _ _ _ _ _ _ _ c.admits-in-Spread.ensures.work
    (steps.after_Spread place c.in-Spread.count c.in-Spread.needs)
    (c.copies-in-Spread.ensures.work present stands (place + 1) (c.args.vertex + 1) past within.0 within.1
    (refl, after)))
