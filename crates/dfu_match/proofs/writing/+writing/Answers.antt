use Rattle.std.proofs.Common.{arith, rules, ◌≡◌, ◌+◌, ◌*◌, ◌-◌, ◌<◌, ◌≤◌, List, [], ◌∷◌, ◌++◌, length, take, drop}
use Rattle.std.proofs.Common.{append-nil, refl, sym, ◌∙◌, inl, inr, false, true≢false}
use Rattle.std.proofs.lemmas.List.{drop_all}
use Rattle.std.proofs.Math.Nat.{mul-le-mul}
use denote.Param.Weighed.{most}
use Rattle.flux_defs.specs.declared.claims.Claim.{Claim}
use Rattle.flux_defs.specs.declared.claims.Claim.TheVariants.{Take, Hold, Pass}
use Rattle.flux_defs.specs.declared.requests.Need.{Need, Vert}
use Rattle.flux_defs.proofs.requests.Need.TheLaws.{the_size}
use Rattle.flux_defs.specs.Graph.{Everywhere}
use Rattle.flux_defs.specs.Needs.{amount_of, AreValidNeeds}
use Rattle.flux_laws.proofs.Takes.{takes_less}
use Rattle.flux_laws.proofs.FitLaws.{serves_less}
use Rattle.match_laws.proofs.Walk.{filled_start, filled_over, filled_next, filled_done, filled_none}
use Rattle.match_laws.proofs.NeedLists.{group_to, group_at, completes_next, completes_end}
use Rattle.match_laws.proofs.Sizes.{size_Vert, size_Spread, size_item}
use Rattle.prune_laws.proofs.Demanded.{amount_some}
use Rattle.dfu_match.specs.Searches.{meets, open_to, scope_of}
use Rattle.dfu_match.proofs.ScopeLaws.{none_before, none_skipped, none_after, none_at_all, found}
use Rattle.dfu_match.specs.Tables.{needs_all}
use Rattle.dfu_match.proofs.TableLaws as tables
use Rattle.dfu_match.proofs.CountLaws as counts
use Rattle.dfu_match.proofs.HoldLaws.{admitted_open}
use Rattle.dfu_match.proofs.WriteLaws as laws
use Rattle.dfu_match.specs.Tables.{all_of}
use Rattle.dfu_match.specs.Pairs.{IsClearScope, asked_totals}
use Rattle.dfu_match.proofs.OpenLaws.{none_inside, span_same}
use Rattle.dfu_match.proofs.PairLaws.{takes_none}
use Rattle.dfu_match.proofs.ReachLaws.{over_own}
use Rattle.dfu_match.proofs.StepLaws as steps
use Rattle.dfu_match.proofs.writing.+writing.Goals as goal

pub offer-returns-then-not-admits-clause-offers : goal.offer-returns-then-not-admits-clause-offers
offer-returns-then-not-admits-clause-offers g t c =
    laws.extends_none c.args.out.now.items _ (λ present stands scope within.
    let vs = c.args.s.now.graph.now.resources.vertices in
    let ok : Claim → Type 0 = open_to vs present c.args.s.now.barred.now c.args.s.now.window in
    let none = counts.vertex_closed vs ok scope c.in-Vert.kind c.in-Vert.count c.in-Vert.hold c.in-Vert.needs
    c.args.vertex c.args.most
    (λ may. true≢false (sym ((c.admits.ensures.answer present stands).1 may) ∙ c.if-not-admits.true)) in
    rw c.in-Vert.is (laws.offers_none _ _ c.args.most 0 refl none))

pub offer-copies-requires-clause-stand : goal.offer-copies-requires-clause-stand
offer-copies-requires-clause-stand g t c =
    tables.inside_Vert (needs_all c.args.s.now.needs.now) c.args.s.now.wanted.now c.args.index c.index_within.result
    c.in-Vert.kind c.in-Vert.count c.in-Vert.hold c.in-Vert.needs c.index_within.ensures
    (rw c.in-Vert.is at c.requires.stands)

pub offer-copies-requires-clause-valid : goal.offer-copies-requires-clause-valid
offer-copies-requires-clause-valid g t c =
    counts.valid_inside c.args.s.now.graph.now.resources.vertices c.in-Vert.kind c.in-Vert.count c.in-Vert.hold
    c.in-Vert.needs (rw c.in-Vert.is at c.requires.valid)

pub offer-copies-requires-clause-open : goal.offer-copies-requires-clause-open
offer-copies-requires-clause-open g t c = λ present stands.
    let s = c.args.s.now in
    admitted_open (meets s.graph.now.resources.vertices present s.barred.now) s.window c.args.vertex c.in-Vert.hold
    ((c.admits.ensures.answer present stands).0 c.if-not-admits.false)

pub offer-returns-then-copies-eq0-clause-offers : goal.offer-returns-then-copies-eq0-clause-offers
offer-returns-then-copies-eq0-clause-offers g t c =
    laws.extends_none c.args.out.now.items _ (λ present stands scope within.
    let vs = c.args.s.now.graph.now.resources.vertices in
    let ok : Claim → Type 0 = open_to vs present c.args.s.now.barred.now c.args.s.now.window in
    let is = rw c.in-Vert.is at c.requires.of_need in
    let none = counts.vertex_open vs ok scope c.in-Vert.kind c.in-Vert.count c.in-Vert.hold c.in-Vert.needs
    c.args.vertex c.args.most c.copies.result c.requires.some within is
    ((c.admits.ensures.answer present stands).0 c.if-not-admits.false) (c.copies.ensures.greatest present stands) in
    rw c.in-Vert.is (laws.offers_none _ _ c.args.most c.copies.result c.if-copies-eq0.true none))

pub offer-returns-then-hold-clause-offers : goal.offer-returns-then-hold-clause-offers
offer-returns-then-hold-clause-offers g t c = (
  Hold c.args.vertex ∷ [],
  c.in_ok-push-in-Vert.ensures.ok,
  λ present stands scope within.
      let vs = c.args.s.now.graph.now.resources.vertices in
      let ok : Claim → Type 0 = open_to vs present c.args.s.now.barred.now c.args.s.now.window in
      let is = rw c.in-Vert.is at c.requires.of_need in
      rw c.in-Vert.is (laws.offers_held vs ok scope c.in-Vert.kind c.in-Vert.count c.in-Vert.hold c.in-Vert.needs
      c.args.vertex c.args.most c.copies.result c.if-hold.true c.if-copies-eq0.false c.requires.some within is
      ((c.admits.ensures.answer present stands).0 c.if-not-admits.false) (c.copies.ensures.greatest present stands)),
)

pub offer-write_shared-requires : goal.offer-write_shared-requires
offer-write_shared-requires g t c κs h =
    let vs = c.args.s.now.graph.now.resources.vertices in
    let lt : most the_size c.in-Vert.needs < the_size c.args.need.now =
    rw c.in-Vert.is (size_Vert c.in-Vert.kind c.in-Vert.count c.in-Vert.hold c.in-Vert.needs) in (
      omega (arith, lt, c.decreases),
      (
        search rules,
        (
          search rules,
          (
            tables.inside_Vert (needs_all c.args.s.now.needs.now) c.args.s.now.wanted.now c.args.index
                c.index_within-in-Vert.result c.in-Vert.kind c.in-Vert.count c.in-Vert.hold c.in-Vert.needs
                c.index_within-in-Vert.ensures (rw c.in-Vert.is at c.requires.stands),
            (
              c.requires.vertex,
              (
                λ present stands. admitted_open (meets vs present c.args.s.now.barred.now) c.args.s.now.window
                    c.args.vertex
                    c.in-Vert.hold ((c.admits.ensures.answer present stands).0 c.if-not-admits.false),
                (
                  counts.valid_inside vs c.in-Vert.kind c.in-Vert.count c.in-Vert.hold c.in-Vert.needs
                      (rw c.in-Vert.is at c.requires.valid),
                  (inl refl, omega arith),
                ),
              ),
            ),
          ),
        ),
      ),
    )

pub offer-returns-then-not-fit-clause-offers : goal.offer-returns-then-not-fit-clause-offers
offer-returns-then-not-fit-clause-offers g t c =
    let wrote = c.in_ok-fit-in-Vert.ensures.written in (
      wrote.0,
      wrote.1,
      λ present stands scope within.
          let vs = c.args.s.now.graph.now.resources.vertices in
          let ok : Claim → Type 0 = open_to vs present c.args.s.now.barred.now c.args.s.now.window in
          let is = rw c.in-Vert.is at c.requires.of_need in
          let never = rw c.if-not-fit.true at (wrote.2.1 present stands) in
          rw c.in-Vert.is (laws.offers_unfit vs ok scope c.in-Vert.kind c.in-Vert.count c.in-Vert.hold c.in-Vert.needs
          c.args.vertex c.args.most wrote.0 (wrote.2.0 c.if-not-fit.true) c.requires.some within is
          ((c.admits.ensures.answer present stands).0 c.if-not-admits.false) never),
    )

pub offer-returns-else-not-fit-clause-offers : goal.offer-returns-else-not-fit-clause-offers
offer-returns-else-not-fit-clause-offers g t c =
    let wrote = c.in_ok-fit-in-Vert.ensures.written in (
      wrote.0,
      wrote.1,
      λ present stands scope within.
          let vs = c.args.s.now.graph.now.resources.vertices in
          let ok : Claim → Type 0 = open_to vs present c.args.s.now.barred.now c.args.s.now.window in
          let is = rw c.in-Vert.is at c.requires.of_need in
          let low = rw c.if-not-fit.false at (wrote.2.1 present stands) in
          rw c.in-Vert.is (laws.offers_shared vs ok scope c.in-Vert.kind c.in-Vert.count c.in-Vert.hold
          c.in-Vert.needs c.args.vertex c.args.most wrote.0 c.if-hold.false c.requires.some within is
          ((c.admits.ensures.answer present stands).0 c.if-not-admits.false) low),
    )

pub offer-returns-then-quantity-eq0-clause-offers : goal.offer-returns-then-quantity-eq0-clause-offers
offer-returns-then-quantity-eq0-clause-offers g t c =
    laws.extends_none c.args.out.now.items _ (λ present stands scope within. laws.offers_none _ _ c.args.most
    c.serves-quantity.result c.if-quantity-eq0.true (c.serves-quantity.ensures.greatest present stands scope within))

pub offer-returns-in_ok-push-in-Pool-clause-offers : goal.offer-returns-in_ok-push-in-Pool-clause-offers
offer-returns-in_ok-push-in-Pool-clause-offers g t c = (
  Take c.args.vertex c.serves-quantity.result ∷ [],
  c.in_ok-push-in-Pool.ensures.ok,
  λ present stands scope within.
      let g = rw c.in-Pool.is at (c.serves-quantity.ensures.greatest present stands scope within) in
      rw c.in-Pool.is (laws.offers_some _ _ c.args.most c.serves-quantity.result
      (Take c.args.vertex c.serves-quantity.result ∷ []) (let some = c.if-quantity-eq0.false in omega arith) g
      refl),
)

pub offer-offer_held-requires-clause-stands : goal.offer-offer_held-requires-clause-stands
offer-offer_held-requires-clause-stands g t c =
    let s = c.args.s.now in
    tables.stand_first (needs_all s.needs.now) s.wanted.now c.index_within-within.result c.in-Spread.needs []
    c.in-Some.held.now c.in-Some.ensures.0
    (tables.inside_Spread (needs_all s.needs.now) s.wanted.now c.args.index c.index_within-within.result
    c.in-Spread.count c.in-Spread.needs c.index_within-within.ensures (rw c.in-Spread.is at c.requires.stands))

pub offer-offer_held-requires-clause-valid : goal.offer-offer_held-requires-clause-valid
offer-offer_held-requires-clause-valid g t c =
    let vs = c.args.s.now.graph.now.resources.vertices in
    counts.valid_at vs c.in-Spread.needs 0 c.in-Some.held.now [] c.in-Some.ensures.0
    (counts.valid_copy vs c.in-Spread.count c.in-Spread.needs (rw c.in-Spread.is at c.requires.valid))

pub offer-returns-in-Some-clause-offers : goal.offer-returns-in-Some-clause-offers
offer-returns-in-Some-clause-offers g t c =
    let wrote = c.in_ok-copies-in-Spread.ensures.offers in (
      wrote.0,
      wrote.1,
      λ present stands scope within.
          rw (c.in-Spread.is, c.in-Some.ensures.0) (wrote.2 present stands scope c.in-Spread.count within),
    )

pub offer-returns-then-count-eq0-clause-offers : goal.offer-returns-then-count-eq0-clause-offers
offer-returns-then-count-eq0-clause-offers g t c =
    laws.extends_none c.args.out.now.items _ (λ present stands scope within. laws.offers_none _ _ c.args.most
    c.serves-count.result c.if-count-eq0.true (c.serves-count.ensures.greatest present stands scope within))

pub offer-write_shared-requires-in-Spread : goal.offer-write_shared-requires-in-Spread
offer-write_shared-requires-in-Spread g t c κs h =
    let vs = c.args.s.now.graph.now.resources.vertices in
    let lt : most the_size c.in-Spread.needs < the_size c.args.need.now =
    rw c.in-Spread.is (size_Spread c.in-Spread.count c.in-Spread.needs) in
    let valid = rw c.in-Spread.is at c.requires.valid in (
      omega (arith, lt, c.decreases),
      (
        search rules,
        (
          search rules,
          (
            tables.inside_Spread (needs_all c.args.s.now.needs.now) c.args.s.now.wanted.now c.args.index
                c.index_within-in-Spread.result c.in-Spread.count c.in-Spread.needs c.index_within-in-Spread.ensures
                (rw c.in-Spread.is at c.requires.stands),
            (
              c.requires.vertex,
              (
                λ present stands.
                    let ok : Claim → Type 0 = open_to vs present c.args.s.now.barred.now c.args.s.now.window in
                    let greatest = rw c.in-Spread.is at (c.serves-count.ensures.greatest present stands Everywhere
                    c.requires.vertex) in
                    admitted_open (meets vs present c.args.s.now.barred.now) c.args.s.now.window c.args.vertex false
                    (laws.copies_pass vs ok Everywhere c.in-Spread.count c.in-Spread.needs c.args.vertex c.args.most
                    c.serves-count.result c.if-count-eq0.false greatest),
                (
                  counts.valid_copy vs c.in-Spread.count c.in-Spread.needs valid,
                  (
                    inr (counts.plain_copy vs c.in-Spread.count c.in-Spread.needs valid),
                    (let some = c.if-count-eq0.false in omega arith),
                  ),
                ),
              ),
            ),
          ),
        ),
      ),
    )

pub offer-returns-then-not-fit-2-clause-offers : goal.offer-returns-then-not-fit-2-clause-offers
offer-returns-then-not-fit-2-clause-offers g t c =
    let wrote = c.in_ok-fit-in-Spread.ensures.written in (
      wrote.0,
      wrote.1,
      λ present stands scope within.
          let vs = c.args.s.now.graph.now.resources.vertices in
          let ok : Claim → Type 0 = open_to vs present c.args.s.now.barred.now c.args.s.now.window in
          let never = rw c.if-not-fit-2.true at (wrote.2.1 present stands) in
          let greatest = rw c.in-Spread.is at (c.serves-count.ensures.greatest present stands scope within) in
          absurd (laws.copies_fit vs ok scope c.in-Spread.count c.in-Spread.needs c.args.vertex c.args.most
          c.serves-count.result c.if-count-eq0.false greatest never),
    )

pub offer-returns-else-not-fit-2-clause-offers : goal.offer-returns-else-not-fit-2-clause-offers
offer-returns-else-not-fit-2-clause-offers g t c =
    let wrote = c.in_ok-fit-in-Spread.ensures.written in (
      wrote.0,
      wrote.1,
      λ present stands scope within.
          let vs = c.args.s.now.graph.now.resources.vertices in
          let ok : Claim → Type 0 = open_to vs present c.args.s.now.barred.now c.args.s.now.window in
          let low = rw c.if-not-fit-2.false at (wrote.2.1 present stands) in
          let greatest = rw c.in-Spread.is at (c.serves-count.ensures.greatest present stands scope within) in
          rw c.in-Spread.is (laws.offers_copies vs ok scope c.in-Spread.count c.in-Spread.needs c.args.vertex
          c.args.most c.serves-count.result wrote.0 c.if-count-eq0.false greatest low),
    )

pub write_group-returns-in_default-clause-written : goal.write_group-returns-in_default-clause-written
write_group-returns-in_default-clause-written g t c =
    laws.extends_none c.args.out.now.items _ (λ present stands some.
    let vs = c.args.s.now.graph.now.resources.vertices in
    let ok : Claim → Type 0 = open_to vs present c.args.s.now.barred.now c.args.s.now.window in
    let scope = scope_of c.args.scope in
    let need = c.args.need.now in
    let never = none_at_all vs ok scope need c.in_default.ensures in
    filled_none _ (serves_less vs ok (takes_less _ _) scope need) (λ v q cs. ⊥) (c.args.k * amount_of need) 0
    (c.args.k * amount_of need) [] (λ v q lo h can. never v q can)
    (mul-le-mul c.requires.some (amount_some vs need c.requires.valid))
    (filled_start _ _ (c.args.k * amount_of need) 0 (λ v q lo hi h can. never v q can))
    (group_to vs ok scope need (c.args.k * amount_of need) some))

pub write_group-loop-missing-init : goal.write_group-loop-missing-init
write_group-loop-missing-init g t c =
    let total : c.from.result * c.from-2.result ≡ c.args.k * amount_of c.args.need.now =
    rw (c.from.ensures, c.from-2.ensures, c.amount.ensures) refl in
    record {
      within = omega arith;
      from = omega arith;
      written = laws.extends_none c.args.out.now.items _ (λ present stands.
          let vs = c.args.s.now.graph.now.resources.vertices in
          let ok : Claim → Type 0 = open_to vs present c.args.s.now.barred.now c.args.s.now.window in
          rw total (filled_start _ _ (c.args.k * amount_of c.args.need.now) c.span_of-span.result.from
          (none_before vs ok (scope_of c.args.scope) c.args.need.now c.span_of-span.result.from
          c.span_of-span.result.to c.span_of-span.ensures.covers)));
      walked = λ present stands place times here clear look.
          let s = c.args.s.now in
          steps.walked_start s.graph.now.resources s.graph.now.names c.is_valid.ensures.valid present s.window
          (asked_totals s.wanted.now (g.F.FreeView.keeps s.view.now)) (needs_all s.needs.now) c.args.need.now place
          (times * ((length (needs_all s.needs.now) + 2) * g.F.FreeView.cost s.view.now)) c.args.scope
          c.args.steps.now c.span_of-span.result.from c.span_of-span.result.to c.span_of-span.ensures.span
          c.span_of-span.ensures.within clear;
    }

pub write_group-returns-in_default-next_open_until-clause-written :
    goal.write_group-returns-in_default-next_open_until-clause-written
write_group-returns-in_default-next_open_until-clause-written g t c =
    let wrote = c.loop-missing.invariant.written in (
      wrote.0,
      wrote.1,
      λ present stands some.
          let vs = c.args.s.now.graph.now.resources.vertices in
          let ok : Claim → Type 0 = open_to vs present c.args.s.now.barred.now c.args.s.now.window in
          let scope = scope_of c.args.scope in
          let need = c.args.need.now in
          filled_none _ (serves_less vs ok (takes_less _ _) scope need) _ (c.args.k * amount_of need)
          c.loop-missing.at c.loop-missing.missing wrote.0
          (none_after vs ok scope need c.span_of-span.result.from c.loop-missing.at c.span_of-span.result.to
          c.span_of-span.ensures.covers (over_own c.args.s.now.window c.next_open_until.new.until
          c.in_default-next_open_until.ensures.falls c.args.s.now.opens _
          (c.in_default-next_open_until.ensures.skipped present stands)))
          c.loop-missing-test.true (wrote.2 present stands)
          (group_to vs ok scope need (c.args.k * amount_of need) some),
    )

pub write_group-loop-missing-preserved : goal.write_group-loop-missing-preserved
write_group-loop-missing-preserved g t c =
    let s = c.args.s.now in
    let graph = s.graph.now in
    let vs = graph.resources.vertices in
    let need = c.args.need.now in
    let v = c.in-Some-next_open_until.vertex in
    let of_kind = rw c.in-Some.is at c.kind_of.ensures in
    let next = rw c.in-Some-next_open_until.is at c.next_open_until.ensures.of_kind in
    let low = next.1 in
    let past = c.past-next.ensures in
    let later = past.later in
    let is = found vs (λ claim. ⊥) (scope_of c.args.scope) need c.in-Some.kind c.span_of-span.result.from
    c.loop-missing.at c.span_of-span.result.to v c.span_of-span.ensures.covers
    c.loop-missing.invariant.from c.span_of-span.ensures.within of_kind next in
    let before = c.loop-missing.invariant.written in
    let wrote = c.in_ok-served.ensures.offers in
    record {
      within = (let few = c.loop-missing.invariant.within in omega arith);
      from = (let lo = c.loop-missing.invariant.from in omega (arith, lo, low, later));
      written = (
        before.0 ++ wrote.0,
        laws.extends_twice c.args.out.now.items c.loop-missing.out.items c.offer.new.out.items before.0 wrote.0
            before.1 wrote.1,
        λ present stands.
            let ok : Claim → Type 0 = open_to vs present s.barred.now s.window in
            let scope = scope_of c.args.scope in
            filled_over _ _ (c.args.k * amount_of need) (v + 1) c.past-next.result
            (c.loop-missing.missing - c.from-missing.result)
            (before.0 ++ wrote.0) (omega (arith, later))
            (none_skipped vs ok scope need (v + 1) c.past-next.result
            (none_inside graph.resources graph.names c.is_valid.ensures.valid ok need c.in-Some.kind v
            c.past-next.result
            of_kind next.0 past))
            (rw c.from-missing.ensures (filled_next _ (serves_less vs ok (takes_less _ _) scope need) _
            (c.args.k * amount_of need) v c.loop-missing.missing c.in_ok-served.served
            before.0 wrote.0
            c.loop-missing-test.true
            (filled_over _ _ (c.args.k * amount_of need) c.loop-missing.at v c.loop-missing.missing before.0 low
            (none_skipped vs ok scope need c.loop-missing.at v
            (rw c.in-Some-next_open_until.is at (over_own s.window c.next_open_until.new.until
            c.next_open_until.ensures.falls s.opens _ (c.next_open_until.ensures.skipped present stands))))
            (before.2 present stands))
            (wrote.2 present stands scope is.1))),
      );
      walked = λ present stands place times here clear look.
          let keeps = asked_totals s.wanted.now (g.F.FreeView.keeps s.view.now) in
          let all = needs_all s.needs.now in
          let cost = g.F.FreeView.cost s.view.now in
          let before = c.loop-missing.invariant.walked present stands place times here clear look in
          let alone = rw c.in-Some-next_open_until.is at (c.next_open_until.ensures.clear present stands before.clear)
          in
          let walk = rw c.in-Some-next_open_until.is at
          (c.next_open_until.ensures.work present stands place here before.clear) in
          let few = tables.place_few all place need here in
          let enough = steps.look_costs (length (all_of need)) (length all) cost few in
          let more = steps.times_costs times ((length all + 2) * cost) (steps.looks_some times need look) in
          steps.walked_next graph.resources graph.names c.is_valid.ensures.valid present s.window keeps all need place
          (times * ((length all + 2) * cost)) c.args.scope (length (all_of need) * cost) (2 * cost)
          c.args.steps.now c.loop-missing.steps c.next_open_until.new.steps c.offer.new.steps
          c.span_of-span.result.from c.loop-missing.at c.span_of-span.result.to v c.past-next.result
          c.span_of-span.ensures.span c.span_of-span.ensures.within here (omega (arith, enough, more)) before next.1
          next.2 alone past walk
          (c.offer.ensures.work present stands place c.past-next.result times here alone past look);
    }

pub write_group-returns-clause-written : goal.write_group-returns-clause-written
write_group-returns-clause-written g t c =
    let wrote = c.loop-missing.invariant.written in
    let none : c.loop-missing.missing ≡ 0 = (let over = c.loop-missing-test.false in omega arith) in (
      wrote.0,
      wrote.1,
      λ present stands. filled_done _ _ (c.args.k * amount_of c.args.need.now) c.loop-missing.at wrote.0
          (rw none at (wrote.2 present stands)),
    )

pub write_needs-write_group-requires : goal.write_needs-write_group-requires
write_needs-write_group-requires g t c κs h =
    let vs = c.args.s.now.graph.now.resources.vertices in
    let items : List Need = c.items-need-items.result.now in
    let i = c.loop-need.need-index in
    let need = c.need-item.result in
    let split : drop i items ≡ need ∷ drop (i + 1) items = counts.item_split items i need c.loop-need-test.true
    c.need-item.is in
    let valid : AreValidNeeds vs items = rw c.items-need-items.ensures c.requires.valid in
    let size : the_size need ≤ most the_size c.args.needs.now = size_item c.args.needs.now i need (drop (i + 1) items)
    (rw (← c.items-need-items.ensures) split) in (
      omega (arith, size, c.decreases),
      (
        search rules,
        (
          search rules,
          (
            tables.stand_first (needs_all c.args.s.now.needs.now) c.args.s.now.wanted.now c.loop-need.at (drop i items)
                (drop (i + 1) items) need split c.loop-need.invariant.stand,
            (
              c.requires.scope,
              (
                c.requires.open,
                (
                  counts.valid_at vs items i need (drop (i + 1) items) split valid,
                  (
                    counts.may_scale_at c.args.k items i need (drop (i + 1) items) split
                        (rw c.items-need-items.ensures c.requires.may),
                    c.requires.some,
                  ),
                ),
              ),
            ),
          ),
        ),
      ),
    )

pub write_needs-index_after-at-requires : goal.write_needs-index_after-at-requires
write_needs-index_after-at-requires g t c =
    let items : List Need = c.items-need-items.result.now in
    let i = c.loop-need.need-index in
    let need = c.need-item.result in
    let split : drop i items ≡ need ∷ drop (i + 1) items = counts.item_split items i need c.loop-need-test.true
    c.need-item.is in
    record {
      stands = tables.stand_first (needs_all c.args.s.now.needs.now) c.args.s.now.wanted.now c.loop-need.at
          (drop i items) (drop (i + 1) items) need split c.loop-need.invariant.stand;
    }

pub write_needs-loop-need-init : goal.write_needs-loop-need-init
write_needs-loop-need-init g t c = record {
  stand = rw c.items-need-items.ensures c.requires.stand;
  written = laws.extends_none c.args.out.now.items _ (λ present stands rest low. low);
  taken = λ present stands place from to times here clear span look.
      takes_none _ _ c.args.steps.now place (place + 0) from to;
}

pub write_needs-returns-then-not-filled-clause-written : goal.write_needs-returns-then-not-filled-clause-written
write_needs-returns-then-not-filled-clause-written g t c =
    let items : List Need = c.items-need-items.result.now in
    let i = c.loop-need.need-index in
    let need = c.need-item.result in
    let split : drop i items ≡ need ∷ drop (i + 1) items = counts.item_split items i need c.loop-need-test.true
    c.need-item.is in
    let before = c.loop-need.invariant.written in
    let wrote = c.in_ok-filled.ensures.written in (
      before.0 ++ wrote.0,
      laws.extends_twice c.args.out.now.items c.loop-need.out.items c.write_group.new.out.items before.0 wrote.0
          before.1 wrote.1,
      λ present stands fit.
          let vs = c.args.s.now.graph.now.resources.vertices in
          let ok : Claim → Type 0 = open_to vs present c.args.s.now.barred.now c.args.s.now.window in
          let never = rw c.if-not-filled.true at (wrote.2 present stands) in
          never (group_at vs ok c.args.k (scope_of c.args.scope) items i need (drop (i + 1) items) split
          (rw c.items-need-items.ensures fit)),
    )

pub write_needs-loop-need-preserved : goal.write_needs-loop-need-preserved
write_needs-loop-need-preserved g t c =
    let items : List Need = c.items-need-items.result.now in
    let i = c.loop-need.need-index in
    let need = c.need-item.result in
    let split : drop i items ≡ need ∷ drop (i + 1) items = counts.item_split items i need c.loop-need-test.true
    c.need-item.is in
    let before = c.loop-need.invariant.written in
    let wrote = c.in_ok-filled.ensures.written in
    record {
      stand = tables.stand_next (needs_all c.args.s.now.needs.now) c.args.s.now.wanted.now c.loop-need.at
          c.index_after-at.result (drop i items) (drop (i + 1) items) need split c.index_after-at.ensures
          c.loop-need.invariant.stand;
      written = (
        before.0 ++ wrote.0,
        laws.extends_twice c.args.out.now.items c.loop-need.out.items c.write_group.new.out.items before.0 wrote.0
            before.1 wrote.1,
        λ present stands.
            let vs = c.args.s.now.graph.now.resources.vertices in
            let ok : Claim → Type 0 = open_to vs present c.args.s.now.barred.now c.args.s.now.window in
            let group = rw c.if-not-filled.false at (wrote.2 present stands) in
            completes_next vs ok c.args.k (scope_of c.args.scope) items (drop i items) (drop (i + 1) items) need
            before.0 wrote.0 split group (before.2 present stands),
      );
      taken = λ present stands place from to times here clear span look.
          let all = needs_all c.args.s.now.needs.now in
          let each = times * ((length all + 2) * g.F.FreeView.cost c.args.s.now.view.now) in
          let keeps = asked_totals c.args.s.now.wanted.now (g.F.FreeView.keeps c.args.s.now.view.now) in
          let before = length (needs_all (take i items)) in
          let place' = tables.place_first all (place + before) (drop i items) (drop (i + 1) items) need split
          (tables.place_from all i place items here) in
          let scope = counts.each_at (IsClearScope c.args.s.now.graph.now.resources.vertices present c.args.s.now.window
          keeps c.args.scope) items i need (drop (i + 1) items) split clear in
          steps.listed_next _ each c.args.steps.now c.loop-need.steps c.write_group.new.steps place from to items
          (drop (i + 1) items) i need c.loop-need-test.true c.need-item.is
          (c.loop-need.invariant.taken present stands place from to times here clear span look)
          (c.write_group.ensures.work present stands (place + before) from to times place' scope span
          (steps.looks_at times items i need (drop (i + 1) items) split look));
    }

pub write_needs-returns-clause-written : goal.write_needs-returns-clause-written
write_needs-returns-clause-written g t c =
    let items : List Need = c.items-need-items.result.now in
    let wrote = c.loop-need.invariant.written in (
      wrote.0,
      wrote.1,
      λ present stands.
          let vs = c.args.s.now.graph.now.resources.vertices in
          let ok : Claim → Type 0 = open_to vs present c.args.s.now.barred.now c.args.s.now.window in
          rw (← c.items-need-items.ensures) (completes_end vs ok c.args.k (scope_of c.args.scope) items
          (drop c.loop-need.need-index items) wrote.0
          (drop_all c.loop-need.need-index items c.loop-need-test.false) (wrote.2 present stands)),
    )

pub offer-returns-then-copies-eq0-clause-work : goal.offer-returns-then-copies-eq0-clause-work
offer-returns-then-copies-eq0-clause-work g t c = λ present stands place past times.
    rw c.in-Vert.is (λ here clear after look.
    let within = steps.in_vertex _ _ c.is_valid.ensures.valid present _ _ (needs_all c.args.s.now.needs.now) place _ _
    _ _ _
    (rw c.in-Vert.is at c.requires.valid) here clear in
    steps.takes_times _ times _ _ _ _ _ _ _
    (steps.looks_some times (Vert c.in-Vert.kind c.in-Vert.count c.in-Vert.hold c.in-Vert.needs) look)
    (steps.takes_later _ _ _ _ _ _ _ _ _ _ c.admits.ensures.work
    (steps.after_Vert place c.in-Vert.kind c.in-Vert.count c.in-Vert.hold c.in-Vert.needs)
    (c.copies.ensures.work present stands (place + 1) (c.args.vertex + 1) past within.0 within.1 (refl, after))))

pub offer-returns-in_err-push-in-Vert-clause-work : goal.offer-returns-in_err-push-in-Vert-clause-work
offer-returns-in_err-push-in-Vert-clause-work g t c = λ present stands place past times.
    rw c.in-Vert.is (λ here clear after look.
    let within = steps.in_vertex _ _ c.is_valid.ensures.valid present _ _ (needs_all c.args.s.now.needs.now) place _ _
    _ _ _
    (rw c.in-Vert.is at c.requires.valid) here clear in
    steps.takes_times _ times _ _ _ _ _ _ _
    (steps.looks_some times (Vert c.in-Vert.kind c.in-Vert.count c.in-Vert.hold c.in-Vert.needs) look)
    (steps.takes_later _ _ _ _ _ _ _ _ _ _ c.admits.ensures.work
    (steps.after_Vert place c.in-Vert.kind c.in-Vert.count c.in-Vert.hold c.in-Vert.needs)
    (c.copies.ensures.work present stands (place + 1) (c.args.vertex + 1) past within.0 within.1 (refl, after))))

pub offer-returns-then-hold-clause-work : goal.offer-returns-then-hold-clause-work
offer-returns-then-hold-clause-work g t c = λ present stands place past times.
    rw c.in-Vert.is (λ here clear after look.
    let within = steps.in_vertex _ _ c.is_valid.ensures.valid present _ _ (needs_all c.args.s.now.needs.now) place _ _
    _ _ _
    (rw c.in-Vert.is at c.requires.valid) here clear in
    steps.takes_times _ times _ _ _ _ _ _ _
    (steps.looks_some times (Vert c.in-Vert.kind c.in-Vert.count c.in-Vert.hold c.in-Vert.needs) look)
    (steps.takes_later _ _ _ _ _ _ _ _ _ _ c.admits.ensures.work
    (steps.after_Vert place c.in-Vert.kind c.in-Vert.count c.in-Vert.hold c.in-Vert.needs)
    (c.copies.ensures.work present stands (place + 1) (c.args.vertex + 1) past within.0 within.1 (refl, after))))

pub offer-returns-in_err-fit-in-Vert-clause-work : goal.offer-returns-in_err-fit-in-Vert-clause-work
offer-returns-in_err-fit-in-Vert-clause-work g t c = λ present stands place past times.
    rw c.in-Vert.is (λ here clear after look.
    let within = steps.in_vertex _ _ c.is_valid.ensures.valid present _ _ (needs_all c.args.s.now.needs.now) place _ _
    _ _ _
    (rw c.in-Vert.is at c.requires.valid) here clear in
    steps.takes_later _ _ _ _ _ _ _ _ _ _ c.admits.ensures.work
    (steps.after_Vert place c.in-Vert.kind c.in-Vert.count c.in-Vert.hold c.in-Vert.needs)
    (c.write_shared.ensures.work present stands (place + 1) past times within.0 within.1 after
    (steps.looks_Vert times c.in-Vert.kind c.in-Vert.count c.in-Vert.hold c.in-Vert.needs look)))

pub offer-returns-then-not-fit-clause-work : goal.offer-returns-then-not-fit-clause-work
offer-returns-then-not-fit-clause-work g t c = λ present stands place past times.
    rw c.in-Vert.is (λ here clear after look.
    let within = steps.in_vertex _ _ c.is_valid.ensures.valid present _ _ (needs_all c.args.s.now.needs.now) place _ _
    _ _ _
    (rw c.in-Vert.is at c.requires.valid) here clear in
    steps.takes_later _ _ _ _ _ _ _ _ _ _ c.admits.ensures.work
    (steps.after_Vert place c.in-Vert.kind c.in-Vert.count c.in-Vert.hold c.in-Vert.needs)
    (c.write_shared.ensures.work present stands (place + 1) past times within.0 within.1 after
    (steps.looks_Vert times c.in-Vert.kind c.in-Vert.count c.in-Vert.hold c.in-Vert.needs look)))

pub offer-returns-else-not-fit-clause-work : goal.offer-returns-else-not-fit-clause-work
offer-returns-else-not-fit-clause-work g t c = λ present stands place past times.
    rw c.in-Vert.is (λ here clear after look.
    let within = steps.in_vertex _ _ c.is_valid.ensures.valid present _ _ (needs_all c.args.s.now.needs.now) place _ _
    _ _ _
    (rw c.in-Vert.is at c.requires.valid) here clear in
    steps.takes_later _ _ _ _ _ _ _ _ _ _ c.admits.ensures.work
    (steps.after_Vert place c.in-Vert.kind c.in-Vert.count c.in-Vert.hold c.in-Vert.needs)
    (c.write_shared.ensures.work present stands (place + 1) past times within.0 within.1 after
    (steps.looks_Vert times c.in-Vert.kind c.in-Vert.count c.in-Vert.hold c.in-Vert.needs look)))

pub offer-returns-then-quantity-eq0-clause-work : goal.offer-returns-then-quantity-eq0-clause-work
offer-returns-then-quantity-eq0-clause-work g t c = λ present stands place past times here clear after look.
    steps.takes_times _ times _ _ _ _ _ _ _ (steps.looks_some times c.args.need.now look)
    (c.serves-quantity.ensures.work present stands place past here clear after)

pub offer-returns-in_err-push-in-Pool-clause-work : goal.offer-returns-in_err-push-in-Pool-clause-work
offer-returns-in_err-push-in-Pool-clause-work g t c = λ present stands place past times here clear after look.
    steps.takes_times _ times _ _ _ _ _ _ _ (steps.looks_some times c.args.need.now look)
    (c.serves-quantity.ensures.work present stands place past here clear after)

pub offer-returns-in_ok-push-in-Pool-clause-work : goal.offer-returns-in_ok-push-in-Pool-clause-work
offer-returns-in_ok-push-in-Pool-clause-work g t c = λ present stands place past times here clear after look.
    steps.takes_times _ times _ _ _ _ _ _ _ (steps.looks_some times c.args.need.now look)
    (c.serves-quantity.ensures.work present stands place past here clear after)

pub offer-returns-in_err-copies-in-Spread-clause-work : goal.offer-returns-in_err-copies-in-Spread-clause-work
offer-returns-in_err-copies-in-Spread-clause-work g t c = λ present stands place past times here clear after look.
    let within = steps.in_copy _ _ c.is_valid.ensures.valid present _ _ (needs_all c.args.s.now.needs.now) place _ _ _
    (rw c.in-Spread.is at c.requires.valid) (rw c.in-Spread.is at here) (rw c.in-Spread.is at clear) in
    let alone = c.in-Some.ensures.0 in
    steps.takes_times _ times _ _ _ _ _ _ _ (steps.looks_some times c.args.need.now look)
    (steps.takes_later _ _ _ _ _ _ _ _ _ _ (omega arith)
    (rw c.in-Spread.is (steps.after_alone place c.in-Spread.count c.in-Spread.needs c.in-Some.held.now alone))
    (c.offer_held.ensures.work present stands (place + 1) past
    (tables.place_first (needs_all c.args.s.now.needs.now) (place + 1) c.in-Spread.needs [] c.in-Some.held.now alone
    within.0)
    (rw alone at within.1).0 after))

pub offer-returns-in-Some-clause-work : goal.offer-returns-in-Some-clause-work
offer-returns-in-Some-clause-work g t c = λ present stands place past times here clear after look.
    let within = steps.in_copy _ _ c.is_valid.ensures.valid present _ _ (needs_all c.args.s.now.needs.now) place _ _ _
    (rw c.in-Spread.is at c.requires.valid) (rw c.in-Spread.is at here) (rw c.in-Spread.is at clear) in
    let alone = c.in-Some.ensures.0 in
    steps.takes_times _ times _ _ _ _ _ _ _ (steps.looks_some times c.args.need.now look)
    (steps.takes_later _ _ _ _ _ _ _ _ _ _ (omega arith)
    (rw c.in-Spread.is (steps.after_alone place c.in-Spread.count c.in-Spread.needs c.in-Some.held.now alone))
    (c.offer_held.ensures.work present stands (place + 1) past
    (tables.place_first (needs_all c.args.s.now.needs.now) (place + 1) c.in-Spread.needs [] c.in-Some.held.now alone
    within.0)
    (rw alone at within.1).0 after))

pub offer-returns-then-count-eq0-clause-work : goal.offer-returns-then-count-eq0-clause-work
offer-returns-then-count-eq0-clause-work g t c = λ present stands place past times here clear after look.
    steps.takes_times _ times _ _ _ _ _ _ _ (steps.looks_some times c.args.need.now look)
    (c.serves-count.ensures.work present stands place past here clear after)

pub offer-returns-in_err-fit-in-Spread-clause-work : goal.offer-returns-in_err-fit-in-Spread-clause-work
offer-returns-in_err-fit-in-Spread-clause-work g t c = λ present stands place past times here clear after look.
    let within = steps.in_copy _ _ c.is_valid.ensures.valid present _ _ (needs_all c.args.s.now.needs.now) place _ _ _
    (rw c.in-Spread.is at c.requires.valid) (rw c.in-Spread.is at here) (rw c.in-Spread.is at clear) in
    steps.takes_twice _ times _ _ _ _ _ _ _ _
    (steps.looks_Spread times c.in-Spread.count c.in-Spread.needs (rw c.in-Spread.is at look))
    (c.serves-count.ensures.work present stands place past here clear after)
    (steps.takes_later _ _ c.serves-count.new.steps c.serves-count.new.steps _ _ _ _ _ _ (omega arith)
    (rw c.in-Spread.is (steps.after_Spread place c.in-Spread.count c.in-Spread.needs))
    (c.write_shared-in-Spread.ensures.work present stands (place + 1) past 1 within.0 within.1 after
    (inr (refl, within.2))))

pub offer-returns-then-not-fit-2-clause-work : goal.offer-returns-then-not-fit-2-clause-work
offer-returns-then-not-fit-2-clause-work g t c = λ present stands place past times here clear after look.
    let within = steps.in_copy _ _ c.is_valid.ensures.valid present _ _ (needs_all c.args.s.now.needs.now) place _ _ _
    (rw c.in-Spread.is at c.requires.valid) (rw c.in-Spread.is at here) (rw c.in-Spread.is at clear) in
    steps.takes_twice _ times _ _ _ _ _ _ _ _
    (steps.looks_Spread times c.in-Spread.count c.in-Spread.needs (rw c.in-Spread.is at look))
    (c.serves-count.ensures.work present stands place past here clear after)
    (steps.takes_later _ _ c.serves-count.new.steps c.serves-count.new.steps _ _ _ _ _ _ (omega arith)
    (rw c.in-Spread.is (steps.after_Spread place c.in-Spread.count c.in-Spread.needs))
    (c.write_shared-in-Spread.ensures.work present stands (place + 1) past 1 within.0 within.1 after
    (inr (refl, within.2))))

pub offer-returns-else-not-fit-2-clause-work : goal.offer-returns-else-not-fit-2-clause-work
offer-returns-else-not-fit-2-clause-work g t c = λ present stands place past times here clear after look.
    let within = steps.in_copy _ _ c.is_valid.ensures.valid present _ _ (needs_all c.args.s.now.needs.now) place _ _ _
    (rw c.in-Spread.is at c.requires.valid) (rw c.in-Spread.is at here) (rw c.in-Spread.is at clear) in
    steps.takes_twice _ times _ _ _ _ _ _ _ _
    (steps.looks_Spread times c.in-Spread.count c.in-Spread.needs (rw c.in-Spread.is at look))
    (c.serves-count.ensures.work present stands place past here clear after)
    (steps.takes_later _ _ c.serves-count.new.steps c.serves-count.new.steps _ _ _ _ _ _ (omega arith)
    (rw c.in-Spread.is (steps.after_Spread place c.in-Spread.count c.in-Spread.needs))
    (c.write_shared-in-Spread.ensures.work present stands (place + 1) past 1 within.0 within.1 after
    (inr (refl, within.2))))

pub write_group-returns-in_default-clause-work : goal.write_group-returns-in_default-clause-work
write_group-returns-in_default-clause-work g t c = λ present stands place from to times here clear span look.
    takes_none _ _ c.args.steps.now place (place + length (all_of c.args.need.now)) from to

pub write_group-returns-in_default-next_open_until-clause-work :
    goal.write_group-returns-in_default-next_open_until-clause-work
write_group-returns-in_default-next_open_until-clause-work g t c =
    λ present stands place from to times here clear span look.
    let s = c.args.s.now in
    let graph = s.graph.now in
    let need = c.args.need.now in
    let keeps = asked_totals s.wanted.now (g.F.FreeView.keeps s.view.now) in
    let all = needs_all s.needs.now in
    let cost = g.F.FreeView.cost s.view.now in
    let same = span_same graph.resources graph.names c.is_valid.ensures.valid c.args.scope from to
    c.span_of-span.result.from c.span_of-span.result.to span c.span_of-span.ensures.span in
    let before = c.loop-missing.invariant.walked present stands place times here clear look in
    let walk = c.in_default-next_open_until.ensures.work present stands place here before.clear in
    let enough = steps.look_costs (length (all_of need)) (length all) cost (tables.place_few all place need here) in
    let more = steps.times_costs times ((length all + 2) * cost) (steps.looks_some times need look) in
    rw (same.0, same.1) (steps.walked_none graph.resources graph.names c.is_valid.ensures.valid present s.window keeps
    all need place
    (times * ((length all + 2) * cost)) (length (all_of need) * cost) c.args.steps.now c.loop-missing.steps
    c.next_open_until.new.steps c.span_of-span.result.from c.loop-missing.at c.span_of-span.result.to
    (omega (arith, enough, more)) before walk)

pub write_group-returns-clause-work : goal.write_group-returns-clause-work
write_group-returns-clause-work g t c = λ present stands place from to times here clear span look.
    let s = c.args.s.now in
    let graph = s.graph.now in
    let need = c.args.need.now in
    let keeps = asked_totals s.wanted.now (g.F.FreeView.keeps s.view.now) in
    let all = needs_all s.needs.now in
    let cost = g.F.FreeView.cost s.view.now in
    let same = span_same graph.resources graph.names c.is_valid.ensures.valid c.args.scope from to
    c.span_of-span.result.from c.span_of-span.result.to span c.span_of-span.ensures.span in
    rw (same.0, same.1) (steps.walked_end graph.resources graph.names c.is_valid.ensures.valid present s.window keeps
    all
    need place
    (times * ((length all + 2) * cost)) c.args.steps.now c.loop-missing.steps
    c.span_of-span.result.from c.loop-missing.at c.span_of-span.result.to
    (c.loop-missing.invariant.walked present stands place times here clear look))

pub write_group-returns-in_err-served-clause-work : goal.write_group-returns-in_err-served-clause-work
write_group-returns-in_err-served-clause-work g t c = λ present stands place from to times here clear span look.
    let s = c.args.s.now in
    let graph = s.graph.now in
    let need = c.args.need.now in
    let keeps = asked_totals s.wanted.now (g.F.FreeView.keeps s.view.now) in
    let all = needs_all s.needs.now in
    let cost = g.F.FreeView.cost s.view.now in
    let same = span_same graph.resources graph.names c.is_valid.ensures.valid c.args.scope from to
    c.span_of-span.result.from c.span_of-span.result.to span c.span_of-span.ensures.span in
    let v = c.in-Some-next_open_until.vertex in
    let next = rw c.in-Some-next_open_until.is at c.next_open_until.ensures.of_kind in
    let before = c.loop-missing.invariant.walked present stands place times here clear look in
    let alone = rw c.in-Some-next_open_until.is at (c.next_open_until.ensures.clear present stands before.clear) in
    let walk = rw c.in-Some-next_open_until.is at
    (c.next_open_until.ensures.work present stands place here before.clear) in
    let enough = steps.look_costs (length (all_of need)) (length all) cost (tables.place_few all place need here) in
    let more = steps.times_costs times ((length all + 2) * cost) (steps.looks_some times need look) in
    rw (same.0, same.1) (steps.walked_end graph.resources graph.names c.is_valid.ensures.valid present s.window keeps
    all
    need place
    (times * ((length all + 2) * cost)) c.args.steps.now c.offer.new.steps
    c.span_of-span.result.from c.past-next.result c.span_of-span.result.to
    (steps.walked_next graph.resources graph.names c.is_valid.ensures.valid present s.window keeps all need place
    (times * ((length all + 2) * cost)) c.args.scope (length (all_of need) * cost) (2 * cost) c.args.steps.now
    c.loop-missing.steps c.next_open_until.new.steps c.offer.new.steps c.span_of-span.result.from c.loop-missing.at
    c.span_of-span.result.to v c.past-next.result c.span_of-span.ensures.span c.span_of-span.ensures.within here
    (omega (arith, enough, more)) before next.1 next.2 alone c.past-next.ensures walk
    (c.offer.ensures.work present stands place c.past-next.result times here alone c.past-next.ensures look)))

pub write_needs-returns-in_err-filled-clause-work : goal.write_needs-returns-in_err-filled-clause-work
write_needs-returns-in_err-filled-clause-work g t c =
    let s = c.args.s.now in
    let all = needs_all s.needs.now in
    rw (← c.items-need-items.ensures) (λ present stands place from to times here clear span look.
    steps.listed_over _ (IsClearScope s.graph.now.resources.vertices present s.window
    (asked_totals s.wanted.now (g.F.FreeView.keeps s.view.now)) c.args.scope) all c.items-need-items.result.now
    c.loop-need.need-index c.need-item.result c.loop-need-test.true c.need-item.is
    (times * ((length all + 2) * g.F.FreeView.cost s.view.now)) c.args.steps.now c.loop-need.steps
    c.write_group.new.steps place from to times here clear look
    (c.loop-need.invariant.taken present stands place from to times here clear span look)
    (λ at there open' few. c.write_group.ensures.work present stands at from to times there open' span few))

pub write_needs-returns-then-not-filled-clause-work : goal.write_needs-returns-then-not-filled-clause-work
write_needs-returns-then-not-filled-clause-work g t c =
    let s = c.args.s.now in
    let all = needs_all s.needs.now in
    rw (← c.items-need-items.ensures) (λ present stands place from to times here clear span look.
    steps.listed_over _ (IsClearScope s.graph.now.resources.vertices present s.window
    (asked_totals s.wanted.now (g.F.FreeView.keeps s.view.now)) c.args.scope) all c.items-need-items.result.now
    c.loop-need.need-index c.need-item.result c.loop-need-test.true c.need-item.is
    (times * ((length all + 2) * g.F.FreeView.cost s.view.now)) c.args.steps.now c.loop-need.steps
    c.write_group.new.steps place from to times here clear look
    (c.loop-need.invariant.taken present stands place from to times here clear span look)
    (λ at there open' few. c.write_group.ensures.work present stands at from to times there open' span few))

pub write_needs-returns-clause-work : goal.write_needs-returns-clause-work
write_needs-returns-clause-work g t c =
    let items : List Need = c.items-need-items.result.now in
    rw (← c.items-need-items.ensures) (λ present stands place from to times here clear span look.
    steps.listed_end _ (times * ((length
    (needs_all c.args.s.now.needs.now) + 2) * g.F.FreeView.cost c.args.s.now.view.now))
    c.args.steps.now c.loop-need.steps place from to items c.loop-need.need-index
    (c.loop-need.invariant.taken present stands place from to times here clear span look))

pub write_shared-returns-clause-written : goal.write_shared-returns-clause-written
write_shared-returns-clause-written g t c =
    let wrote = c.in_ok-fit.ensures.written in
    let pass : List Claim = Pass c.args.vertex ∷ [] in
    let all = laws.extends_twice c.args.out.now.items c.push.new.items.items c.write_needs.new.out.items pass
    wrote.0 c.in_ok-push.ensures.ok wrote.1 in
    let long : c.len-mark.result ≡ length c.args.out.now.items = search rules in
    let back : c.truncate.new.self.items ≡ c.args.out.now.items = rw (c.truncate.ensures.items, long)
    (laws.cut_back c.args.out.now.items c.write_needs.new.out.items (pass ++ wrote.0) all) in (
      [],
      back ∙ sym (append-nil c.args.out.now.items),
      (λ _. refl, λ present stands. rw c.if-fit.false at (wrote.2 present stands)),
    )
