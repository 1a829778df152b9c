use Rattle.std.proofs.Common.{◌+◌, ◌*◌, ◌≤◌, length, min, arith, ap, sym, ◌∙◌, is_some, inl, inr, refl}
use Rattle.std.proofs.Common.{slice_get}
use Rattle.match_laws.proofs.NeedLists.{server}
use Rattle.std.proofs.lemmas.Bool.{cases_lt}
use Rattle.graph_laws.proofs.Containment.{below_le}
use Rattle.graph_laws.proofs.Preorder.{parents_first}
use Rattle.dfu_match.proofs.BarLaws.{rank_node}
use Rattle.dfu_match.proofs.WalkLaws as laws
use Rattle.dfu_match.specs.Pairs.{asked_totals}
use Rattle.dfu_match.specs.Searches.{open_to}
use Rattle.dfu_match.specs.Tables.{all_of}
use Rattle.dfu_match.proofs.NotingLaws.{none_to, none_before, none_below}
use Rattle.dfu_match.proofs.OpenLaws.{clear_within, clear_past, none_inside}
use Rattle.dfu_match.proofs.PairLaws.{takes_upto, takes_within}
use Rattle.dfu_match.proofs.ReachLaws.{reach_all}
use Rattle.dfu_match.proofs.RowLaws.{knows_noted, knows_passed, none_at, row_between}
use Rattle.dfu_match.proofs.topmost.next_open_known.Goals as goal

pub returns-in_default-clause-skipped : goal.returns-in_default-clause-skipped
returns-in_default-clause-skipped g c = λ present stands.
    let s = c.args.s.now in
    let graph = s.graph.now in
    laws.skipped_all graph.resources graph.names c.is_valid.ensures.valid present s.barred.now s.window c.args.need.now
    c.args.kind c.requires.of_kind c.args.from c.look.at c.args.to c.in_default.ensures
    (c.look.invariant.skipped present stands)

pub returns-in_default-clause-known : goal.returns-in_default-clause-known
returns-in_default-clause-known g c =
    let s = c.args.s.now in
    let graph = s.graph.now in
    let need = c.args.need.now in
    knows_passed graph.resources.vertices (g.F.FreeView.stands_for s.view.now) s.barred.now s.needs.now s.window
    c.args.own c.look.at c.args.to c.look.known c.pass.new.self need c.requires.of_own c.pass.ensures.own
    c.pass.ensures.rows c.pass.ensures.blocks c.pass.ensures.end
    (none_to graph.resources graph.names c.is_valid.ensures.valid need c.args.kind c.requires.of_kind c.look.at
    c.args.to c.in_default.ensures)
    c.look.invariant.known

pub returns-in_default-clause-work : goal.returns-in_default-clause-work
returns-in_default-clause-work g c = λ present stands place at before.
    let steps = length (all_of c.args.need.now) * g.F.FreeView.cost c.args.s.now.view.now in
    takes_within _ steps steps c.args.steps.now c.look.steps place (place + 1) c.args.from (min c.look.low c.args.to)
    place (place + 1) c.args.from c.args.to (omega arith) (omega arith) (omega arith) (omega arith) (omega arith)
    (c.look.invariant.taken present stands place at before)

pub returns-then-is_some-clause-work : goal.returns-then-is_some-clause-work
returns-then-is_some-clause-work g c = λ present stands place at before.
    let steps = length (all_of c.args.need.now) * g.F.FreeView.cost c.args.s.now.view.now in
    takes_within _ steps steps c.args.steps.now c.look.steps place (place + 1) c.args.from (min c.look.low c.args.to)
    place (place + 1) c.args.from c.args.to (omega arith) (omega arith) (omega arith) (omega arith) (omega arith)
    (c.look.invariant.taken present stands place at before)

pub returns-then-is_some-clause-skipped : goal.returns-then-is_some-clause-skipped
returns-then-is_some-clause-skipped g c = λ present stands.
    let s = c.args.s.now in
    let graph = s.graph.now in
    let next = rw c.in-Some.is at c.next_of_kind.ensures in
    laws.skipped_shut graph.resources graph.names c.is_valid.ensures.valid present s.barred.now s.window c.args.need.now
    c.args.kind c.requires.of_kind c.in-Some.vertex c.args.from c.look.at c.args.to s.opens (s.shuts c.if-s.true)
    next.of_kind (rank_node graph.resources.vertices c.in-Some.vertex
    (ap is_some (sym c.rank_at.ensures) ∙ (sym c.is_some.ensures ∙ c.if-is_some.true)))
    (c.look.invariant.skipped present stands)

-- a vertex of which is known that it serves nothing is passed over
pub look-preserved-then-serves_none : goal.look-preserved-then-serves_none
look-preserved-then-serves_none g c =
    let s = c.args.s.now in
    let graph = s.graph.now in
    let vs = graph.resources.vertices in
    let need = c.args.need.now in
    let valid = c.is_valid.ensures.valid in
    let next = rw c.in-Some.is at c.next_of_kind.ensures in
    let low = next.low in
    let later = c.past-next.ensures.later in
    let order = c.look.invariant.order in
    let told = c.if-serves_none.ensures refl in
    let passed = c.first_serving.ensures.later in
    record {
      later = c.look.invariant.later;
      order = omega (arith, order, low, later);
      skipped = λ present stands scope u q lo hi some can.
          let ok = open_to vs present s.barred.now s.window in
          let dead = none_at graph.resources (g.F.FreeView.stands_for s.view.now) s.barred.now s.needs.now s.window
          c.look.known c.args.own need c.requires.valid c.requires.of_own told.0 c.look.invariant.known s.opens present
          stands scope u q some can in
          elim (cases_lt u c.in-Some.vertex) [
            | inl before ↦ laws.skipped_to graph.resources graph.names valid present s.barred.now s.window need
                c.args.kind c.requires.of_kind c.args.from c.look.at c.args.to c.in-Some.vertex next
                (c.look.invariant.skipped present stands) scope u q lo before some can
            | inr after ↦ elim (cases_lt c.in-Some.vertex u) [
              | inl below ↦ elim (cases_lt u c.past-next.result) [
                | inl inside ↦ none_inside graph.resources graph.names valid ok need c.args.kind c.in-Some.vertex
                    c.past-next.result c.requires.of_kind next.of_kind c.past-next.ensures scope u q
                    (omega (arith, below)) inside some can
                | inr outside ↦ (
                    let found = row_between vs need 0 c.look.known.end c.look.count c.first_serving.result
                    c.reach_before.result u c.look.known.rows.items told.1.0 told.1.1
                    passed (c.look.invariant.known.order need
                    (ap (slice_get s.needs.now) told.0 ∙ c.requires.of_own)) c.reach_before.ensures
                    (server vs ok scope need u q can).0 (rw told.1.2 below) (omega (arith, hi, outside)) in
                    let first = found.2 in
                    dead found.0 found.1 found.4 found.5
                    (c.first_serving.ensures.none found.0 found.1 (omega (arith, first)) found.3 found.4))
              ]
              | inr same ↦ dead c.look.count told.1.0 told.1.1 (let e = told.1.2 in omega (arith, e, after, same))
                  (told.1.3, told.1.4)
            ]
          ];
      known = c.look.invariant.known;
      own = c.look.invariant.own;
      clear = c.look.invariant.clear;
      taken = c.look.invariant.taken;
    }

pub returns-in-None-clause-skipped : goal.returns-in-None-clause-skipped
returns-in-None-clause-skipped g c = λ present stands.
    let s = c.args.s.now in
    let graph = s.graph.now in
    laws.skipped_to graph.resources graph.names c.is_valid.ensures.valid present s.barred.now s.window c.args.need.now
    c.args.kind c.requires.of_kind c.args.from c.look.at c.args.to c.in-Some.vertex
    (rw c.in-Some.is at c.next_of_kind.ensures) (c.look.invariant.skipped present stands)

pub returns-in-None-clause-clear : goal.returns-in-None-clause-clear
returns-in-None-clause-clear g c = λ present stands before.
    let s = c.args.s.now in
    let graph = s.graph.now in
    let next = rw c.in-Some.is at c.next_of_kind.ensures in
    let low = next.low in
    let order = c.look.invariant.order in
    clear_within graph.resources graph.names c.is_valid.ensures.valid present s.window
    (asked_totals s.wanted.now (g.F.FreeView.keeps s.view.now)) c.args.need.now c.look.low c.args.to c.in-Some.vertex
    (let hi = next.high in let most = c.requires.within in omega (arith, hi, most))
    (c.look.invariant.clear present stands before) (omega (arith, low, order)) next.high
    (c.in-None.ensures.clear present stands) (c.in-None.ensures.own present stands)

pub returns-in-None-clause-known : goal.returns-in-None-clause-known
returns-in-None-clause-known g c =
    let s = c.args.s.now in
    let graph = s.graph.now in
    let need = c.args.need.now in
    let valid = c.is_valid.ensures.valid in
    let next = rw c.in-Some.is at c.next_of_kind.ensures in
    let same = c.unknown-row.ensures.same in
    knows_noted graph.resources.vertices (g.F.FreeView.stands_for s.view.now) s.barred.now s.needs.now s.window
    c.args.own c.look.at c.past-next.result c.unknown-row.result c.look.known c.note.new.self need c.requires.of_own
    c.note.ensures.own c.note.ensures.noted
    (rw same (none_before graph.resources graph.names valid need c.args.kind c.requires.of_kind c.look.at c.args.to
    c.in-Some.vertex next))
    (rw same (none_below graph.resources graph.names valid need c.args.kind c.requires.of_kind c.in-Some.vertex
    c.past-next.result next.of_kind c.past-next.ensures))
    c.unknown-row.ensures.row c.look.invariant.known

pub returns-in-None-clause-work : goal.returns-in-None-clause-work
returns-in-None-clause-work g c = λ present stands place at before.
    let s = c.args.s.now in
    let next = rw c.in-Some.is at c.next_of_kind.ensures in
    let lo = next.low in
    let hi = next.high in
    let order = c.look.invariant.order in
    let from = c.look.invariant.later in
    let steps = length (all_of c.args.need.now) * g.F.FreeView.cost s.view.now in
    takes_upto _ steps c.args.steps.now c.look.steps c.top_within.new.steps place (place + 1) c.args.from
    (min c.look.low c.args.to) (c.in-Some.vertex + 1) (omega (arith, from, order, lo, hi)) (omega (arith, lo, order))
    (c.look.invariant.taken present stands place at before)
    (takes_within _ steps steps c.look.steps c.top_within.new.steps place (place + 1) c.look.low
    (c.in-Some.vertex + 1) place (place + 1) (min c.look.low c.args.to) (c.in-Some.vertex + 1) (omega arith)
    (omega arith) (omega arith) (omega (arith, order, lo, hi)) (omega arith)
    (c.top_within.ensures.work present stands place at
    (c.look.invariant.clear present stands before c.in-Some.vertex (omega (arith, order, lo)) hi)))

pub past-past-requires : goal.past-past-requires
past-past-requires g c =
    let graph = c.args.s.now.graph.now in
    let next = rw c.in-Some.is at c.next_of_kind.ensures in
    let high = next.high in
    let within = c.requires.within in
    let le = below_le graph.resources.vertices (parents_first graph.resources c.is_valid.ensures.valid.preorder)
    c.in-Some.vertex c.in-Some-top_within.top c.in-Some-top_within.ensures.above.1 in
    omega arith

pub note_short-requires-clause-none : goal.note_short-requires-clause-none
note_short-requires-clause-none g c = λ present stands w reach.
    let s = c.args.s.now in
    let graph = s.graph.now in
    let valid = c.is_valid.ensures.valid in
    let next = rw c.in-Some.is at c.next_of_kind.ensures in
    laws.skipped_past graph.resources graph.names valid present s.barred.now w c.args.need.now c.args.kind
    c.requires.of_kind (asked_totals s.wanted.now (g.F.FreeView.keeps s.view.now)) c.requires.valid
    c.look.at c.look.at c.in-Some.vertex c.in-Some-top_within.top c.past-past.result
    c.in-Some-top_within.ensures.above.1 (c.in-Some-top_within.ensures.short present stands w reach) c.past-past.ensures
    (laws.skipped_to graph.resources graph.names valid present s.barred.now w c.args.need.now c.args.kind
    c.requires.of_kind c.look.at c.look.at c.args.to c.in-Some.vertex next
    (λ scope u q lo hi some can. omega (arith, lo, hi)))

-- a short subtree is passed over
pub look-preserved : goal.look-preserved
look-preserved g c =
    let s = c.args.s.now in
    let graph = s.graph.now in
    let valid = c.is_valid.ensures.valid in
    let keeps = asked_totals s.wanted.now (g.F.FreeView.keeps s.view.now) in
    let next = rw c.in-Some.is at c.next_of_kind.ensures in
    let lo = next.low in
    let hi = next.high in
    let order = c.look.invariant.order in
    let from = c.look.invariant.later in
    let most = c.requires.within in
    let above = c.in-Some-top_within.ensures.above in
    let top = above.0 in
    let past = c.past-past.ensures.later in
    let inside = c.past-past.ensures.whole c.in-Some.vertex (omega (arith, hi, most)) above.1 in
    record {
      later = omega (arith, from, top, past);
      order = omega arith;
      skipped = λ present stands.
          let within : s.window.from ≤ c.top_within.new.until = c.top_within.ensures.falls.1 (omega arith) in
          laws.skipped_past graph.resources graph.names valid present s.barred.now s.window c.args.need.now c.args.kind
          c.requires.of_kind keeps c.requires.valid c.args.from c.look.at c.in-Some.vertex c.in-Some-top_within.top
          c.past-past.result above.1
          (c.in-Some-top_within.ensures.short present stands s.window
          (reach_all s.window c.top_within.new.until within s.opens))
          c.past-past.ensures
          (laws.skipped_to graph.resources graph.names valid present s.barred.now s.window c.args.need.now c.args.kind
          c.requires.of_kind c.args.from c.look.at c.args.to c.in-Some.vertex next
          (c.look.invariant.skipped present stands));
      known = c.note_short.ensures.known;
      own = c.note_short.ensures.own ∙ c.look.invariant.own;
      clear = λ present stands before. clear_past graph.resources graph.names valid present s.window keeps
          c.args.need.now
          c.look.low c.args.to c.in-Some.vertex c.in-Some-top_within.top c.past-past.result c.requires.within
          (c.look.invariant.clear present stands before) (omega (arith, lo, order)) hi (omega (arith, hi, most)) above.1
          (c.in-Some-top_within.ensures.clear present stands) c.past-past.ensures;
      taken = λ present stands place at before.
          let steps = length (all_of c.args.need.now) * g.F.FreeView.cost s.view.now in
          takes_within _ steps steps c.args.steps.now c.top_within.new.steps place (place + 1) c.args.from
          (c.in-Some.vertex + 1) place (place + 1) c.args.from (min c.past-past.result c.args.to) (omega arith)
          (omega arith) (omega arith) (omega arith) (omega (arith, inside, hi))
          (takes_upto _ steps c.args.steps.now c.look.steps c.top_within.new.steps place (place + 1) c.args.from
          (min c.look.low c.args.to) (c.in-Some.vertex + 1) (omega (arith, from, order, lo, hi))
          (omega (arith, lo, order)) (c.look.invariant.taken present stands place at before)
          (takes_within _ steps steps c.look.steps c.top_within.new.steps place (place + 1) c.look.low
          (c.in-Some.vertex + 1) place (place + 1) (min c.look.low c.args.to) (c.in-Some.vertex + 1) (omega arith)
          (omega arith) (omega arith) (omega (arith, order, lo, hi)) (omega arith)
          (c.top_within.ensures.work present stands place at
          (c.look.invariant.clear present stands before c.in-Some.vertex (omega (arith, order, lo)) hi))));
    }
