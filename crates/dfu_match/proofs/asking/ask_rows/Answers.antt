use Rattle.std.proofs.Common.{◌≡◌, ◌<◌, List, Some, slice_get, length, refl, sym, ◌∙◌, ap, subst, arith}
use Rattle.std.proofs.lemmas.Option.{get_or_from_slice_get, slice_get_within}
use Rattle.list_laws.proofs.Lists.{set_length}
use Rattle.dfu_match.specs.declared.knowing.Row.{Row}
use Rattle.dfu_match.specs.Rows.{IsLeft}
use Rattle.dfu_match.specs.Tables.{needs_all}
use Rattle.dfu_match.specs.Pairs.{asked_totals}
use Rattle.dfu_match.proofs.AskLaws.{knows_left}
use Rattle.dfu_match.proofs.AskSteps.{asked_all, asked_next, asked_start}
use Rattle.dfu_match.proofs.RowLaws.{row_known}
use Rattle.dfu_match.proofs.asking.ask_rows.Goals as goal

pub left-left-requires : goal.left-left-requires
left-left-requires g c = record {
  lefts = c.requires.known.lefts c.args.need.now
      (ap (slice_get c.args.s.now.needs.now) c.requires.is_own ∙ c.requires.of_own);
}

pub each-init : goal.each-init
each-init g c =
    let s = c.args.s.now in
    let graph = s.graph.now in
    let told = c.left-left.ensures in
    record {
      known = knows_left graph.resources.vertices (g.F.FreeView.stands_for s.view.now) s.barred.now s.needs.now s.window
          c.args.known.now c.left-left.new.self c.args.own c.args.need.now c.requires.of_own c.requires.is_own told.own
          told.rows told.end told.lefts c.requires.known;
      own = told.own ∙ c.requires.is_own;
      end = refl;
      dead = λ present stands w reach scope v q lo hi some can. omega (arith, lo, hi);
      asked = λ present stands place at. asked_start graph.resources graph.names c.is_valid.ensures.valid present
          s.window
          (asked_totals s.wanted.now (g.F.FreeView.keeps s.view.now)) (needs_all s.needs.now) c.args.need.now place
          (g.F.FreeView.cost s.view.now) c.args.steps.now;
      left = told.left;
      from = told.from;
      opens = told.opens;
    }

pub returns-in_default-clause-work : goal.returns-in_default-clause-work
returns-in_default-clause-work g c = λ present stands place at.
    let s = c.args.s.now in
    asked_all s.graph.now.resources s.graph.now.names c.is_valid.ensures.valid present s.window
    (asked_totals s.wanted.now (g.F.FreeView.keeps s.view.now)) (needs_all s.needs.now) c.args.need.now place
    (g.F.FreeView.cost s.view.now) c.args.steps.now c.each.steps 0 c.each.low
    (c.each.invariant.asked present stands place at)

pub renew-low-requires-clause-of_need : goal.renew-low-requires-clause-of_need
renew-low-requires-clause-of_need g c =
    let s = c.args.s.now in
    let rows = c.each.known.rows.items in
    let row = c.in-Some.row in
    let there : slice_get rows c.in-Some.at ≡ Some row = c.in-Some.ensures.there in
    (row_known s.graph.now.resources.vertices (g.F.FreeView.stands_for s.view.now) s.barred.now s.needs.now s.window
    c.each.known c.args.own c.args.need.now row c.requires.of_own c.each.invariant.own
    (c.in-Some.at, slice_get_within rows c.in-Some.at row there, get_or_from_slice_get rows c.in-Some.at row row there)
    c.each.invariant.known).of_need

pub returns-in_default-row_at-clause-work : goal.returns-in_default-row_at-clause-work
returns-in_default-row_at-clause-work g c = λ present stands place at.
    let s = c.args.s.now in
    let graph = s.graph.now in
    let valid = c.is_valid.ensures.valid in
    let keeps = asked_totals s.wanted.now (g.F.FreeView.keeps s.view.now) in
    let all = needs_all s.needs.now in
    let cost = g.F.FreeView.cost s.view.now in
    let before = c.each.invariant.asked present stands place at in
    asked_all graph.resources graph.names valid present s.window keeps all c.args.need.now place cost c.args.steps.now
    c.renew-low.new.steps 0 c.renew-low.result
    (asked_next graph.resources graph.names valid present s.window keeps all c.args.need.now place cost c.args.steps.now
    c.each.steps c.renew-low.new.steps 0 c.each.low c.renew-low.result before
    (c.renew-low.ensures.work present stands place at before.clear before.within))

pub each-smaller : goal.each-smaller
each-smaller g c =
    let rows = c.each.known.rows.items in
    let at = c.in-Some.at in
    let now = c.in-Some-row_at.now in
    let inside : at < length rows = slice_get_within rows at c.in-Some.row c.in-Some.ensures.there in
    let later = c.in-Some.ensures.later in
    let same : length c.renew-low.new.known.rows.items ≡ length rows =
    ap (λ (rs : List Row). length rs) (c.renew-low.ensures.place now (sym c.in-Some-row_at.ensures))
    ∙ set_length rows at now in
    omega (arith, inside, later, same)

pub each-preserved : goal.each-preserved
each-preserved g c =
    let from = c.each.invariant.from in
    let opens = c.each.invariant.opens in
    let now = c.in-Some-row_at.now in
    let old = c.in-Some.ensures.old in
    record {
      known = c.renew-low.ensures.known;
      own = c.renew-low.ensures.own ∙ c.each.invariant.own;
      end = c.renew-low.ensures.end ∙ c.each.invariant.end;
      dead = c.renew-low.ensures.dead;
      asked = λ present stands place at.
          let s = c.args.s.now in
          let graph = s.graph.now in
          let before = c.each.invariant.asked present stands place at in
          asked_next graph.resources graph.names c.is_valid.ensures.valid present s.window
          (asked_totals s.wanted.now (g.F.FreeView.keeps s.view.now)) (needs_all s.needs.now) c.args.need.now place
          (g.F.FreeView.cost s.view.now) c.args.steps.now c.each.steps c.renew-low.new.steps 0 c.each.low
          c.renew-low.result before (c.renew-low.ensures.work present stands place at before.clear before.within);
      left = subst (λ (rs : List Row). IsLeft c.args.need.now rs c.renewed-left.result)
          (sym (c.renew-low.ensures.place now (sym c.in-Some-row_at.ensures)))
          (c.renewed-left.ensures.left c.each.known.rows.items c.in-Some.at c.in-Some.row c.in-Some.ensures.there
          (omega (arith, old, from)) c.each.invariant.left);
      from = c.renewed-left.ensures.from ∙ from;
      opens =
          let told = c.renewed-left.ensures.opens (omega (arith, from, opens)) in
          let kept = c.renewed-left.ensures.from in
          omega (arith, told, kept, from);
    }

pub returns-clause-work : goal.returns-clause-work
returns-clause-work g c = λ present stands place at.
    let s = c.args.s.now in
    asked_all s.graph.now.resources s.graph.now.names c.is_valid.ensures.valid present s.window
    (asked_totals s.wanted.now (g.F.FreeView.keeps s.view.now)) (needs_all s.needs.now) c.args.need.now place
    (g.F.FreeView.cost s.view.now) c.args.steps.now c.each.steps 0 c.each.low
    (c.each.invariant.asked present stands place at)
