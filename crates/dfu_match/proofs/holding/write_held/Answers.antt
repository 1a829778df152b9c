use Rattle.std.proofs.Common.{◌+◌, ◌*◌, ◌-◌, [], ◌++◌, length, arith}
use Rattle.flux_defs.specs.declared.claims.Claim.{Claim}
use Rattle.flux_laws.proofs.Takes.{takes_less}
use Rattle.flux_laws.proofs.FitLaws.{serves_less}
use Rattle.match_laws.proofs.NeedLists.{greatest_along, group_from, group_to}
use Rattle.dfu_match.specs.Pairs.{asked_totals}
use Rattle.dfu_match.specs.Searches.{open_to, scope_of}
use Rattle.dfu_match.specs.Tables.{all_of, needs_all}
use Rattle.dfu_match.proofs.HoldingLaws.{up_to_start, up_to_over, up_to_next, up_to_end}
use Rattle.dfu_match.proofs.OpenLaws.{none_inside, span_same}
use Rattle.dfu_match.proofs.ReachLaws.{over_own}
use Rattle.dfu_match.proofs.ScopeLaws.{none_before, none_skipped, none_after, none_at_all, found}
use Rattle.dfu_match.proofs.StepLaws as steps
use Rattle.dfu_match.proofs.TableLaws.{place_few}
use Rattle.dfu_match.proofs.WriteLaws.{extends_none, extends_twice}
use Rattle.dfu_match.proofs.holding.write_held.Goals as goal

pub returns-in_default-clause-written : goal.returns-in_default-clause-written
returns-in_default-clause-written g c =
    extends_none c.args.out.now.items _ (λ present stands.
    let vs = c.args.s.now.graph.now.resources.vertices in
    let ok : Claim → Type 0 = open_to vs present c.args.s.now.barred.now c.args.s.now.window in
    let scope = scope_of c.args.scope in
    let need = c.args.need.now in
    let down = serves_less vs ok (takes_less _ _) scope need in
    let never = none_at_all vs ok scope need c.in_default.ensures in
    let all = up_to_end _ down _ c.args.most 0 0 [] (omega arith) (λ lt v q lo some can. never v q can)
    (up_to_start _ down _ c.args.most 0 (λ v q lo hi some can. never v q can)) in
    (greatest_along _ _ c.args.most 0 (group_from vs ok scope need) (group_to vs ok scope need) all.0, all.1))

pub loop-reached-init : goal.loop-reached-init
loop-reached-init g c = record {
  within = omega arith;
  from = omega arith;
  each = omega arith;
  written = extends_none c.args.out.now.items _ (λ present stands.
      let vs = c.args.s.now.graph.now.resources.vertices in
      let ok : Claim → Type 0 = open_to vs present c.args.s.now.barred.now c.args.s.now.window in
      let scope = scope_of c.args.scope in
      let need = c.args.need.now in
      up_to_start _ (serves_less vs ok (takes_less _ _) scope need) _ c.args.most c.span_of-span.result.from
      (none_before vs ok scope need c.span_of-span.result.from c.span_of-span.result.to
      c.span_of-span.ensures.covers));
  walked = λ present stands place here clear.
      let s = c.args.s.now in
      steps.walked_start s.graph.now.resources s.graph.now.names c.is_valid.ensures.valid present s.window
      (asked_totals s.wanted.now (g.F.FreeView.keeps s.view.now)) (needs_all s.needs.now) c.args.need.now place
      ((length (needs_all s.needs.now) + 2) * g.F.FreeView.cost s.view.now) c.args.scope c.args.steps.now
      c.span_of-span.result.from c.span_of-span.result.to c.span_of-span.ensures.span c.span_of-span.ensures.within
      clear;
}

pub returns-in_default-next_open_until-clause-written : goal.returns-in_default-next_open_until-clause-written
returns-in_default-next_open_until-clause-written g c =
    let wrote = c.loop-reached.invariant.written in (
      wrote.0,
      wrote.1,
      λ present stands.
          let vs = c.args.s.now.graph.now.resources.vertices in
          let ok : Claim → Type 0 = open_to vs present c.args.s.now.barred.now c.args.s.now.window in
          let scope = scope_of c.args.scope in
          let need = c.args.need.now in
          let all = up_to_end _ (serves_less vs ok (takes_less _ _) scope need) _ c.args.most c.loop-reached.at
          c.loop-reached.reached wrote.0 c.loop-reached.invariant.within
          (λ lt. none_after vs ok scope need c.span_of-span.result.from c.loop-reached.at c.span_of-span.result.to
          c.span_of-span.ensures.covers (over_own c.args.s.now.window c.next_open_until.new.until
          c.in_default-next_open_until.ensures.falls c.args.s.now.opens _
          (c.in_default-next_open_until.ensures.skipped present stands)))
          (wrote.2 present stands) in (
            greatest_along _ _ c.args.most c.loop-reached.reached (group_from vs ok scope need)
                (group_to vs ok scope need) all.0,
            all.1,
          ),
    )

pub returns-clause-written : goal.returns-clause-written
returns-clause-written g c =
    let wrote = c.loop-reached.invariant.written in (
      wrote.0,
      wrote.1,
      λ present stands.
          let vs = c.args.s.now.graph.now.resources.vertices in
          let ok : Claim → Type 0 = open_to vs present c.args.s.now.barred.now c.args.s.now.window in
          let scope = scope_of c.args.scope in
          let need = c.args.need.now in
          let all = up_to_end _ (serves_less vs ok (takes_less _ _) scope need) _ c.args.most c.loop-reached.at
          c.loop-reached.reached wrote.0 c.loop-reached.invariant.within
          (λ lt. absurd (let over = c.loop-reached-test.false in omega (arith, over, lt))) (wrote.2 present stands) in (
            greatest_along _ _ c.args.most c.loop-reached.reached (group_from vs ok scope need)
                (group_to vs ok scope need) all.0,
            all.1,
          ),
    )

pub loop-reached-preserved : goal.loop-reached-preserved
loop-reached-preserved g c =
    let s = c.args.s.now in
    let graph = s.graph.now in
    let vs = graph.resources.vertices in
    let need = c.args.need.now in
    let v = c.in-Some-next_open_until.vertex in
    let of_kind = rw c.in-Some.is at c.kind_of.ensures in
    let next = rw c.in-Some-next_open_until.is at c.next_open_until.ensures.of_kind in
    let low = next.1 in
    let past = c.past-next.ensures in
    let later = past.later in
    let is = found vs (λ claim. ⊥) (scope_of c.args.scope) need c.in-Some.kind c.span_of-span.result.from
    c.loop-reached.at c.span_of-span.result.to v c.span_of-span.ensures.covers
    c.loop-reached.invariant.from c.span_of-span.ensures.within of_kind next in
    let before = c.loop-reached.invariant.written in
    let wrote = c.in_ok-held.ensures.offers in
    let some = c.loop-reached-test.true in
    let few = c.in_ok-held.ensures.few in
    let same = c.from-reached.ensures in
    record {
      within = omega (arith, some, few, same);
      from = (let lo = c.loop-reached.invariant.from in omega (arith, lo, low, later));
      each = (let one = c.in_ok-held.ensures.each in let all = c.loop-reached.invariant.each in
          omega (arith, one, all, same));
      written = (
        before.0 ++ wrote.0,
        extends_twice c.args.out.now.items c.loop-reached.out.items c.hold.new.out.items before.0 wrote.0 before.1
            wrote.1,
        λ present stands.
            let ok : Claim → Type 0 = open_to vs present s.barred.now s.window in
            let scope = scope_of c.args.scope in
            let down = serves_less vs ok (takes_less _ _) scope need in
            up_to_over _ down _ c.args.most (v + 1) c.past-next.result (c.loop-reached.reached + c.from-reached.result)
            (before.0 ++ wrote.0) (omega (arith, later))
            (none_skipped vs ok scope need (v + 1) c.past-next.result
            (none_inside graph.resources graph.names c.is_valid.ensures.valid ok need c.in-Some.kind v
            c.past-next.result of_kind next.0 past))
            (rw same (up_to_next _ down _ c.args.most v c.loop-reached.reached c.in_ok-held.held before.0 wrote.0
            (up_to_over _ down _ c.args.most c.loop-reached.at v c.loop-reached.reached before.0 low
            (none_skipped vs ok scope need c.loop-reached.at v
            (rw c.in-Some-next_open_until.is at (over_own s.window c.next_open_until.new.until
            c.next_open_until.ensures.falls s.opens _ (c.next_open_until.ensures.skipped present stands))))
            (before.2 present stands))
            (wrote.2 present stands need scope (c.args.most - c.loop-reached.reached) c.requires.held is.0 is.1
            (omega (arith, some))))),
      );
      walked = λ present stands place here clear.
          let keeps = asked_totals s.wanted.now (g.F.FreeView.keeps s.view.now) in
          let all = needs_all s.needs.now in
          let cost = g.F.FreeView.cost s.view.now in
          let before = c.loop-reached.invariant.walked present stands place here clear in
          let alone = rw c.in-Some-next_open_until.is at (c.next_open_until.ensures.clear present stands before.clear)
          in
          let walk = rw c.in-Some-next_open_until.is at
          (c.next_open_until.ensures.work present stands place here before.clear) in
          steps.walked_next graph.resources graph.names c.is_valid.ensures.valid present s.window keeps all need place
          ((length all + 2) * cost) c.args.scope (length (all_of need) * cost) (2 * cost) c.args.steps.now
          c.loop-reached.steps c.next_open_until.new.steps c.hold.new.steps c.span_of-span.result.from
          c.loop-reached.at c.span_of-span.result.to v c.past-next.result c.span_of-span.ensures.span
          c.span_of-span.ensures.within here
          (steps.look_costs (length (all_of need)) (length all) cost (place_few all place need here)) before low
          next.2 alone past walk (λ pairs has. (let work = c.hold.ensures.work in omega (arith, work)));
    }

pub returns-in_default-next_open_until-clause-work : goal.returns-in_default-next_open_until-clause-work
returns-in_default-next_open_until-clause-work g c = λ present stands place from to here clear span.
    let s = c.args.s.now in
    let graph = s.graph.now in
    let need = c.args.need.now in
    let keeps = asked_totals s.wanted.now (g.F.FreeView.keeps s.view.now) in
    let all = needs_all s.needs.now in
    let cost = g.F.FreeView.cost s.view.now in
    let same = span_same graph.resources graph.names c.is_valid.ensures.valid c.args.scope from to
    c.span_of-span.result.from c.span_of-span.result.to span c.span_of-span.ensures.span in
    let before = c.loop-reached.invariant.walked present stands place here clear in
    let walk = c.in_default-next_open_until.ensures.work present stands place here before.clear in
    let enough = steps.look_costs (length (all_of need)) (length all) cost (place_few all place need here) in
    rw (same.0, same.1) (steps.walked_none graph.resources graph.names c.is_valid.ensures.valid present s.window keeps
    all need place ((length all + 2) * cost) (length (all_of need) * cost) c.args.steps.now c.loop-reached.steps
    c.next_open_until.new.steps c.span_of-span.result.from c.loop-reached.at c.span_of-span.result.to
    (omega (arith, enough)) before walk)

pub returns-in_err-held-clause-work : goal.returns-in_err-held-clause-work
returns-in_err-held-clause-work g c = λ present stands place from to here clear span.
    let s = c.args.s.now in
    let graph = s.graph.now in
    let need = c.args.need.now in
    let keeps = asked_totals s.wanted.now (g.F.FreeView.keeps s.view.now) in
    let all = needs_all s.needs.now in
    let cost = g.F.FreeView.cost s.view.now in
    let same = span_same graph.resources graph.names c.is_valid.ensures.valid c.args.scope from to
    c.span_of-span.result.from c.span_of-span.result.to span c.span_of-span.ensures.span in
    let v = c.in-Some-next_open_until.vertex in
    let next = rw c.in-Some-next_open_until.is at c.next_open_until.ensures.of_kind in
    let before = c.loop-reached.invariant.walked present stands place here clear in
    let alone = rw c.in-Some-next_open_until.is at (c.next_open_until.ensures.clear present stands before.clear) in
    let walk = rw c.in-Some-next_open_until.is at
    (c.next_open_until.ensures.work present stands place here before.clear) in
    rw (same.0, same.1) (steps.walked_end graph.resources graph.names c.is_valid.ensures.valid present s.window keeps
    all
    need place ((length all + 2) * cost) c.args.steps.now c.hold.new.steps c.span_of-span.result.from
    c.past-next.result c.span_of-span.result.to
    (steps.walked_next graph.resources graph.names c.is_valid.ensures.valid present s.window keeps all need place
    ((length all + 2) * cost) c.args.scope (length (all_of need) * cost) (2 * cost) c.args.steps.now
    c.loop-reached.steps c.next_open_until.new.steps c.hold.new.steps c.span_of-span.result.from c.loop-reached.at
    c.span_of-span.result.to v c.past-next.result c.span_of-span.ensures.span c.span_of-span.ensures.within here
    (steps.look_costs (length (all_of need)) (length all) cost (place_few all place need here)) before next.1 next.2
    alone c.past-next.ensures walk (λ pairs has. (let work = c.hold.ensures.work in omega (arith, work)))))

pub returns-clause-work : goal.returns-clause-work
returns-clause-work g c = λ present stands place from to here clear span.
    let s = c.args.s.now in
    let graph = s.graph.now in
    let all = needs_all s.needs.now in
    let same = span_same graph.resources graph.names c.is_valid.ensures.valid c.args.scope from to
    c.span_of-span.result.from c.span_of-span.result.to span c.span_of-span.ensures.span in
    rw (same.0, same.1) (steps.walked_end graph.resources graph.names c.is_valid.ensures.valid present s.window
    (asked_totals s.wanted.now (g.F.FreeView.keeps s.view.now)) all c.args.need.now place
    ((length all + 2) * g.F.FreeView.cost s.view.now) c.args.steps.now c.loop-reached.steps
    c.span_of-span.result.from c.loop-reached.at c.span_of-span.result.to
    (c.loop-reached.invariant.walked present stands place here clear))
