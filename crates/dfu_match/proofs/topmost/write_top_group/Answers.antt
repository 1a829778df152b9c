use Rattle.std.proofs.Common.{arith, ◌≡◌, ◌+◌, ◌*◌, ◌-◌, [], ◌++◌, length}
use Rattle.std.proofs.Common.{None}
use Rattle.flux_defs.specs.declared.claims.Claim.{Claim}
use Rattle.flux_defs.specs.Needs.{amount_of}
use Rattle.flux_laws.proofs.Takes.{takes_less}
use Rattle.flux_laws.proofs.FitLaws.{serves_less}
use Rattle.match_laws.proofs.Walk.{filled_start, filled_over, filled_next, filled_done, filled_none}
use Rattle.match_laws.proofs.NeedLists.{group_to}
use Rattle.prune_laws.proofs.Demanded.{amount_some}
use Rattle.flux_defs.specs.Graph.{Everywhere}
use Rattle.dfu_match.specs.Searches.{open_to}
use Rattle.dfu_match.proofs.ScopeLaws.{none_before, none_skipped, none_after, none_at_all, found}
use Rattle.dfu_match.specs.Tables.{needs_all}
use Rattle.dfu_match.proofs.TableLaws as tables
use Rattle.dfu_match.proofs.WriteLaws as laws
use Rattle.dfu_match.specs.Tables.{all_of}
use Rattle.dfu_match.specs.Pairs.{asked_totals}
use Rattle.dfu_match.proofs.OpenLaws.{none_inside, span_same}
use Rattle.dfu_match.proofs.PairLaws.{takes_none}
use Rattle.dfu_match.proofs.ApartLaws.{visited_start, visited_next, visited_none, visited_end}
use Rattle.dfu_match.proofs.RowLaws.{knows_put}
use Rattle.dfu_match.proofs.StepLaws as steps
use Rattle.dfu_match.proofs.topmost.write_top_group.Goals as goal

pub returns-in_default-clause-written : goal.returns-in_default-clause-written
returns-in_default-clause-written g c =
    laws.extends_none c.args.out.now.items _ (λ present stands some.
    let vs = c.args.s.now.graph.now.resources.vertices in
    let ok : Claim → Type 0 = open_to vs present c.args.s.now.barred.now c.args.s.now.window in
    let scope = Everywhere in
    let need = c.args.need.now in
    let never = none_at_all vs ok scope need c.in_default.ensures in
    filled_none _ (serves_less vs ok (takes_less _ _) scope need) (λ v q cs. ⊥) (1 * amount_of need) 0
    (1 * amount_of need) [] (λ v q lo h can. never v q can)
    (let some = amount_some vs need c.requires.valid in omega (arith, some))
    (filled_start _ _ (1 * amount_of need) 0 (λ v q lo hi h can. never v q can))
    (group_to vs ok scope need (1 * amount_of need) some))

pub loop-missing-init : goal.loop-missing-init
loop-missing-init g c =
    let total : c.from-missing.result ≡ 1 * amount_of c.args.need.now =
    (let e = c.from-missing.ensures in let f = c.amount.ensures in omega (arith, e, f)) in
    record {
      within = omega arith;
      from = omega arith;
      written = laws.extends_none c.args.out.now.items _ (λ present stands.
          let vs = c.args.s.now.graph.now.resources.vertices in
          let ok : Claim → Type 0 = open_to vs present c.args.s.now.barred.now c.args.s.now.window in
          rw total (filled_start _ _ (1 * amount_of c.args.need.now) c.span_of-span.result.from
          (none_before vs ok Everywhere c.args.need.now c.span_of-span.result.from
          c.span_of-span.result.to c.span_of-span.ensures.covers)));
      known = c.requires.known;
      walked = λ present stands place times here clear look.
          let s = c.args.s.now in
          visited_start s.graph.now.resources s.graph.now.names c.is_valid.ensures.valid present s.window
          (asked_totals s.wanted.now (g.F.FreeView.keeps s.view.now)) (needs_all s.needs.now) c.args.need.now place
          ((length (needs_all s.needs.now) + 2) * g.F.FreeView.cost s.view.now)
          (times * ((length (needs_all s.needs.now) + 2) * g.F.FreeView.cost s.view.now)) None
          c.args.steps.now c.span_of-span.result.from c.span_of-span.result.to c.span_of-span.ensures.span
          c.span_of-span.ensures.within clear;
    }

pub returns-in_default-next_open_known-clause-written :
    goal.returns-in_default-next_open_known-clause-written
returns-in_default-next_open_known-clause-written g c =
    let wrote = c.loop-missing.invariant.written in (
      wrote.0,
      wrote.1,
      λ present stands some.
          let vs = c.args.s.now.graph.now.resources.vertices in
          let ok : Claim → Type 0 = open_to vs present c.args.s.now.barred.now c.args.s.now.window in
          let scope = Everywhere in
          let need = c.args.need.now in
          filled_none _ (serves_less vs ok (takes_less _ _) scope need) _ (1 * amount_of need)
          c.loop-missing.at c.loop-missing.missing wrote.0
          (none_after vs ok scope need c.span_of-span.result.from c.loop-missing.at c.span_of-span.result.to
          c.span_of-span.ensures.covers (c.in_default-next_open_known.ensures.skipped present stands))
          c.loop-missing-test.true (wrote.2 present stands) (group_to vs ok scope need (1 * amount_of need) some),
    )

pub loop-missing-preserved : goal.loop-missing-preserved
loop-missing-preserved g c =
    let s = c.args.s.now in
    let graph = s.graph.now in
    let vs = graph.resources.vertices in
    let need = c.args.need.now in
    let v = c.in-Some-next_open_known.vertex in
    let of_kind = rw c.in-Some.is at c.kind_of.ensures in
    let next = rw c.in-Some-next_open_known.is at c.next_open_known.ensures.of_kind in
    let low = next.1 in
    let past = c.past-next.ensures in
    let later = past.later in
    let is = found vs (λ claim. ⊥) Everywhere need c.in-Some.kind c.span_of-span.result.from
    c.loop-missing.at c.span_of-span.result.to v c.span_of-span.ensures.covers
    c.loop-missing.invariant.from c.span_of-span.ensures.within of_kind next in
    let before = c.loop-missing.invariant.written in
    let wrote = c.in_ok-served.ensures.offers in
    record {
      within = (let few = c.loop-missing.invariant.within in omega arith);
      from = (let lo = c.loop-missing.invariant.from in omega (arith, lo, low, later));
      written = (
        before.0 ++ wrote.0,
        laws.extends_twice c.args.out.now.items c.loop-missing.out.items c.offer.new.out.items before.0 wrote.0
            before.1 wrote.1,
        λ present stands.
            let ok : Claim → Type 0 = open_to vs present s.barred.now s.window in
            let scope = Everywhere in
            filled_over _ _ (1 * amount_of need) (v + 1) c.past-next.result
            (c.loop-missing.missing - c.from-missing-in-loop-missing.result)
            (before.0 ++ wrote.0) (omega (arith, later))
            (none_skipped vs ok scope need (v + 1) c.past-next.result
            (none_inside graph.resources graph.names c.is_valid.ensures.valid ok need c.in-Some.kind v
            c.past-next.result
            of_kind next.0 past))
            (rw c.from-missing-in-loop-missing.ensures (filled_next _ (serves_less vs ok (takes_less _ _) scope need) _
            (1 * amount_of need) v c.loop-missing.missing c.in_ok-served.served
            before.0 wrote.0
            c.loop-missing-test.true
            (filled_over _ _ (1 * amount_of need) c.loop-missing.at v c.loop-missing.missing before.0 low
            (none_skipped vs ok scope need c.loop-missing.at v
            (rw c.in-Some-next_open_known.is at (c.next_open_known.ensures.skipped present stands)))
            (before.2 present stands))
            (wrote.2 present stands scope is.1))),
      );
      known = knows_put vs (g.F.FreeView.stands_for s.view.now) s.barred.now s.needs.now s.window c.args.own
          c.unknown-row.result c.next_open_known.new.known c.put.new.self need c.requires.of_own c.put.ensures.own
          c.put.ensures.put c.unknown-row.ensures.row c.next_open_known.ensures.known;
      walked = λ present stands place times here clear look.
          let keeps = asked_totals s.wanted.now (g.F.FreeView.keeps s.view.now) in
          let all = needs_all s.needs.now in
          let cost = g.F.FreeView.cost s.view.now in
          let before = c.loop-missing.invariant.walked present stands place times here clear look in
          let alone = rw c.in-Some-next_open_known.is at (c.next_open_known.ensures.clear present stands before.clear)
          in
          let walk = rw c.in-Some-next_open_known.is at
          (c.next_open_known.ensures.work present stands place here before.clear) in
          let few = tables.place_few all place need here in
          visited_next graph.resources graph.names c.is_valid.ensures.valid present s.window keeps all need place
          ((length all + 2) * cost) (times * ((length all + 2) * cost)) None (length (all_of need) * cost) (2 * cost)
          c.args.steps.now c.loop-missing.steps c.next_open_known.new.steps c.offer.new.steps
          c.span_of-span.result.from c.loop-missing.at c.span_of-span.result.to v c.past-next.result
          c.span_of-span.ensures.span c.span_of-span.ensures.within here
          (steps.look_costs (length (all_of need)) (length all) cost few) before next.1 next.2 alone past walk
          (c.offer.ensures.work present stands place c.past-next.result times here alone past look);
    }

pub returns-clause-written : goal.returns-clause-written
returns-clause-written g c =
    let wrote = c.loop-missing.invariant.written in
    let none : c.loop-missing.missing ≡ 0 = (let over = c.loop-missing-test.false in omega arith) in (
      wrote.0,
      wrote.1,
      λ present stands. filled_done _ _ (1 * amount_of c.args.need.now) c.loop-missing.at wrote.0
          (rw none at (wrote.2 present stands)),
    )

pub returns-in_default-clause-work : goal.returns-in_default-clause-work
returns-in_default-clause-work g c = λ present stands place from to times here clear span look.
    let need = c.args.need.now in (
      0,
      0,
      omega arith,
      takes_none _ _ 0 place (place + 1) from to,
      takes_none _ _ 0 (place + 1) (place + length (all_of need)) from to,
    )

pub returns-in_default-next_open_known-clause-work :
    goal.returns-in_default-next_open_known-clause-work
returns-in_default-next_open_known-clause-work g c =
    λ present stands place from to times here clear span look.
    let s = c.args.s.now in
    let graph = s.graph.now in
    let need = c.args.need.now in
    let keeps = asked_totals s.wanted.now (g.F.FreeView.keeps s.view.now) in
    let all = needs_all s.needs.now in
    let cost = g.F.FreeView.cost s.view.now in
    let same = span_same graph.resources graph.names c.is_valid.ensures.valid None from to
    c.span_of-span.result.from c.span_of-span.result.to span c.span_of-span.ensures.span in
    let before = c.loop-missing.invariant.walked present stands place times here clear look in
    let walk = c.in_default-next_open_known.ensures.work present stands place here before.clear in
    let enough = steps.look_costs (length (all_of need)) (length all) cost (tables.place_few all place need here) in
    rw (same.0, same.1) (visited_none graph.resources graph.names c.is_valid.ensures.valid present s.window keeps
    all need place ((length all + 2) * cost) (times * ((length all + 2) * cost)) (length (all_of need) * cost)
    c.args.steps.now c.loop-missing.steps c.next_open_known.new.steps c.span_of-span.result.from c.loop-missing.at
    c.span_of-span.result.to (omega (arith, enough)) before walk)

pub returns-clause-work : goal.returns-clause-work
returns-clause-work g c = λ present stands place from to times here clear span look.
    let s = c.args.s.now in
    let graph = s.graph.now in
    let need = c.args.need.now in
    let keeps = asked_totals s.wanted.now (g.F.FreeView.keeps s.view.now) in
    let all = needs_all s.needs.now in
    let cost = g.F.FreeView.cost s.view.now in
    let same = span_same graph.resources graph.names c.is_valid.ensures.valid None from to
    c.span_of-span.result.from c.span_of-span.result.to span c.span_of-span.ensures.span in
    rw (same.0, same.1) (visited_end graph.resources graph.names c.is_valid.ensures.valid present s.window keeps all
    need place ((length all + 2) * cost) (times * ((length all + 2) * cost)) c.args.steps.now c.loop-missing.steps
    c.span_of-span.result.from c.loop-missing.at c.span_of-span.result.to
    (c.loop-missing.invariant.walked present stands place times here clear look))

pub returns-in_err-served-clause-work : goal.returns-in_err-served-clause-work
returns-in_err-served-clause-work g c = λ present stands place from to times here clear span look.
    let s = c.args.s.now in
    let graph = s.graph.now in
    let need = c.args.need.now in
    let keeps = asked_totals s.wanted.now (g.F.FreeView.keeps s.view.now) in
    let all = needs_all s.needs.now in
    let cost = g.F.FreeView.cost s.view.now in
    let same = span_same graph.resources graph.names c.is_valid.ensures.valid None from to
    c.span_of-span.result.from c.span_of-span.result.to span c.span_of-span.ensures.span in
    let v = c.in-Some-next_open_known.vertex in
    let next = rw c.in-Some-next_open_known.is at c.next_open_known.ensures.of_kind in
    let before = c.loop-missing.invariant.walked present stands place times here clear look in
    let alone = rw c.in-Some-next_open_known.is at (c.next_open_known.ensures.clear present stands before.clear) in
    let walk = rw c.in-Some-next_open_known.is at
    (c.next_open_known.ensures.work present stands place here before.clear) in
    let enough = steps.look_costs (length (all_of need)) (length all) cost (tables.place_few all place need here) in
    rw (same.0, same.1) (visited_end graph.resources graph.names c.is_valid.ensures.valid present s.window keeps all
    need place ((length all + 2) * cost) (times * ((length all + 2) * cost)) c.args.steps.now c.offer.new.steps
    c.span_of-span.result.from c.past-next.result c.span_of-span.result.to
    (visited_next graph.resources graph.names c.is_valid.ensures.valid present s.window keeps all need place
    ((length all + 2) * cost) (times * ((length all + 2) * cost)) None (length (all_of need) * cost) (2 * cost)
    c.args.steps.now c.loop-missing.steps c.next_open_known.new.steps c.offer.new.steps c.span_of-span.result.from
    c.loop-missing.at c.span_of-span.result.to v c.past-next.result c.span_of-span.ensures.span
    c.span_of-span.ensures.within here (omega (arith, enough)) before next.1 next.2 alone c.past-next.ensures walk
    (c.offer.ensures.work present stands place c.past-next.result times here alone c.past-next.ensures look)))
