use Rattle.std.proofs.Common.{◌+◌, ◌*◌, length, min, arith, ap, sym, ◌∙◌, is_some}
use Rattle.graph_laws.proofs.Containment.{below_le}
use Rattle.graph_laws.proofs.Preorder.{parents_first}
use Rattle.dfu_match.proofs.BarLaws.{rank_node}
use Rattle.dfu_match.proofs.WalkLaws as laws
use Rattle.dfu_match.specs.Pairs.{asked_totals}
use Rattle.dfu_match.specs.Tables.{all_of}
use Rattle.dfu_match.proofs.OpenLaws.{clear_within, clear_past}
use Rattle.dfu_match.proofs.PairLaws.{takes_none, takes_upto, takes_within}
use Rattle.dfu_match.proofs.ReachLaws.{falls_twice, reach_later}
use Rattle.dfu_match.proofs.walking.next_open_until.Goals as goal

pub returns-in_default-clause-skipped : goal.returns-in_default-clause-skipped
returns-in_default-clause-skipped g c = λ present stands w reach.
    let s = c.args.s.now in
    let graph = s.graph.now in
    laws.skipped_all graph.resources graph.names c.is_valid.ensures.valid present s.barred.now w c.args.need.now
    c.args.kind c.requires.of_kind c.args.from c.look.at c.args.to c.in_default.ensures
    (c.look.invariant.skipped present stands w reach)

pub returns-in-None-clause-skipped : goal.returns-in-None-clause-skipped
returns-in-None-clause-skipped g c = λ present stands w reach.
    let s = c.args.s.now in
    let graph = s.graph.now in
    laws.skipped_to graph.resources graph.names c.is_valid.ensures.valid present s.barred.now w c.args.need.now
    c.args.kind c.requires.of_kind c.args.from c.look.at c.args.to c.in-Some.vertex
    (rw c.in-Some.is at c.next_of_kind.ensures)
    (c.look.invariant.skipped present stands w (reach_later s.window w c.top_within.new.until c.look.until
    c.in-None.ensures.falls.0 reach))

pub past-at-requires : goal.past-at-requires
past-at-requires g c =
    let graph = c.args.s.now.graph.now in
    let next = rw c.in-Some.is at c.next_of_kind.ensures in
    let high = next.high in
    let within = c.requires.within in
    let le = below_le graph.resources.vertices (parents_first graph.resources c.is_valid.ensures.valid.preorder)
    c.in-Some.vertex c.in-Some-top_within.top c.in-Some-top_within.ensures.above.1 in
    omega arith

pub look-preserved : goal.look-preserved
look-preserved g c =
    let s = c.args.s.now in
    let graph = s.graph.now in
    let next = rw c.in-Some.is at c.next_of_kind.ensures in
    record {
      later = (
          let past = c.past-at.ensures.later in
          let from = c.look.invariant.later in
          let low = c.in-Some-top_within.ensures.above.0 in
          let next = next.low in
          omega (arith, past, from, low, next));
      falls = falls_twice s.window c.args.until.now c.look.until c.top_within.new.until c.look.invariant.falls
          c.top_within.ensures.falls;
      skipped = λ present stands w reach. laws.skipped_past graph.resources graph.names c.is_valid.ensures.valid present
          s.barred.now w c.args.need.now c.args.kind c.requires.of_kind
          (asked_totals s.wanted.now (g.F.FreeView.keeps s.view.now)) c.requires.valid
          c.args.from c.look.at c.in-Some.vertex c.in-Some-top_within.top c.past-at.result
          c.in-Some-top_within.ensures.above.1
          (c.in-Some-top_within.ensures.short present stands w reach) c.past-at.ensures
          (laws.skipped_to graph.resources graph.names c.is_valid.ensures.valid present s.barred.now w
          c.args.need.now c.args.kind c.requires.of_kind c.args.from c.look.at c.args.to c.in-Some.vertex next
          (c.look.invariant.skipped present stands w (reach_later s.window w c.top_within.new.until c.look.until
          c.top_within.ensures.falls.0 reach)));
      clear = λ present stands before. clear_past graph.resources graph.names c.is_valid.ensures.valid present s.window
          (asked_totals s.wanted.now (g.F.FreeView.keeps s.view.now)) c.args.need.now c.look.at c.args.to
          c.in-Some.vertex
          c.in-Some-top_within.top c.past-at.result c.requires.within (c.look.invariant.clear present stands before)
          (let above = c.in-Some-top_within.ensures.above.0 in let lo = next.low in omega (arith, above, lo)) next.high
          (let hi = next.high in let most = c.requires.within in omega (arith, hi, most))
          c.in-Some-top_within.ensures.above.1 (c.in-Some-top_within.ensures.clear present stands) c.past-at.ensures;
      taken = λ present stands place at before.
          let steps = length (all_of c.args.need.now) * g.F.FreeView.cost s.view.now in
          let lo = next.low in
          let hi = next.high in
          let from = c.look.invariant.later in
          let past = c.past-at.ensures.later in
          let inside = c.past-at.ensures.whole c.in-Some.vertex
          (let most = c.requires.within in omega (arith, hi, most)) c.in-Some-top_within.ensures.above.1 in
          takes_within _ steps steps c.args.steps.now c.top_within.new.steps place (place + 1) c.args.from
          (c.in-Some.vertex + 1) place (place + 1) c.args.from (min c.past-at.result c.args.to) (omega arith)
          (omega arith) (omega arith) (omega arith) (omega (arith, inside, hi))
          (takes_upto _ steps c.args.steps.now c.look.steps c.top_within.new.steps place (place + 1) c.args.from
          (min c.look.at c.args.to) (c.in-Some.vertex + 1) (omega (arith, from, lo, hi)) (omega (arith, lo))
          (c.look.invariant.taken present stands place at before)
          (takes_within _ steps steps c.look.steps c.top_within.new.steps place (place + 1) c.look.at
          (c.in-Some.vertex + 1) place (place + 1) (min c.look.at c.args.to) (c.in-Some.vertex + 1) (omega arith)
          (omega arith) (omega arith) (omega arith) (omega arith)
          (c.top_within.ensures.work present stands place at
          (c.look.invariant.clear present stands before c.in-Some.vertex lo hi))));
    }

pub look-init : goal.look-init
look-init g c =
    let s = c.args.s.now in
    let graph = s.graph.now in
    record {
      later = omega arith;
      falls = (omega arith, λ le. le);
      skipped = λ present stands w reach scope v q lo hi some can. omega (arith, lo, hi);
      clear = λ present stands before. before;
      taken = λ present stands place at before. takes_none _ _ c.args.steps.now place (place + 1) c.args.from
          (min c.args.from c.args.to);
    }

pub returns-in_default-clause-work : goal.returns-in_default-clause-work
returns-in_default-clause-work g c = λ present stands place at before.
    let steps = length (all_of c.args.need.now) * g.F.FreeView.cost c.args.s.now.view.now in
    takes_within _ steps steps c.args.steps.now c.look.steps place (place + 1) c.args.from (min c.look.at c.args.to)
    place (place + 1) c.args.from c.args.to (omega arith) (omega arith) (omega arith) (omega arith) (omega arith)
    (c.look.invariant.taken present stands place at before)

pub returns-then-is_some-clause-work : goal.returns-then-is_some-clause-work
returns-then-is_some-clause-work g c = λ present stands place at before.
    let steps = length (all_of c.args.need.now) * g.F.FreeView.cost c.args.s.now.view.now in
    takes_within _ steps steps c.args.steps.now c.look.steps place (place + 1) c.args.from (min c.look.at c.args.to)
    place (place + 1) c.args.from c.args.to (omega arith) (omega arith) (omega arith) (omega arith) (omega arith)
    (c.look.invariant.taken present stands place at before)

pub returns-in-None-clause-clear : goal.returns-in-None-clause-clear
returns-in-None-clause-clear g c = λ present stands before.
    let s = c.args.s.now in
    let graph = s.graph.now in
    let next = rw c.in-Some.is at c.next_of_kind.ensures in
    clear_within graph.resources graph.names c.is_valid.ensures.valid present s.window
    (asked_totals s.wanted.now (g.F.FreeView.keeps s.view.now)) c.args.need.now c.look.at c.args.to c.in-Some.vertex
    (let hi = next.high in let most = c.requires.within in omega (arith, hi, most))
    (c.look.invariant.clear present stands before) next.low next.high (c.in-None.ensures.clear present stands)
    (c.in-None.ensures.own present stands)

pub returns-in-None-clause-work : goal.returns-in-None-clause-work
returns-in-None-clause-work g c = λ present stands place at before.
    let s = c.args.s.now in
    let next = rw c.in-Some.is at c.next_of_kind.ensures in
    let lo = next.low in
    let hi = next.high in
    let from = c.look.invariant.later in
    let steps = length (all_of c.args.need.now) * g.F.FreeView.cost s.view.now in
    takes_upto _ steps c.args.steps.now c.look.steps c.top_within.new.steps place (place + 1) c.args.from
    (min c.look.at c.args.to) (c.in-Some.vertex + 1) (omega (arith, from, lo, hi)) (omega (arith, lo))
    (c.look.invariant.taken present stands place at before)
    (takes_within _ steps steps c.look.steps c.top_within.new.steps place (place + 1) c.look.at
    (c.in-Some.vertex + 1) place (place + 1) (min c.look.at c.args.to) (c.in-Some.vertex + 1) (omega arith)
    (omega arith) (omega arith) (omega arith) (omega arith)
    (c.top_within.ensures.work present stands place at
    (c.look.invariant.clear present stands before c.in-Some.vertex lo hi)))

pub returns-then-is_some-clause-skipped : goal.returns-then-is_some-clause-skipped
returns-then-is_some-clause-skipped g c = λ present stands w reach.
    let s = c.args.s.now in
    let graph = s.graph.now in
    let next = rw c.in-Some.is at c.next_of_kind.ensures in
    laws.skipped_shut graph.resources graph.names c.is_valid.ensures.valid present s.barred.now w c.args.need.now
    c.args.kind c.requires.of_kind c.in-Some.vertex c.args.from c.look.at c.args.to reach.2 (s.shuts c.if-s.true)
    next.of_kind (rank_node graph.resources.vertices c.in-Some.vertex
    (ap is_some (sym c.rank_at.ensures) ∙ (sym c.is_some.ensures ∙ c.if-is_some.true)))
    (c.look.invariant.skipped present stands w reach)
