use Rattle.std.proofs.Common.{◌≡◌, ◌+◌, ◌*◌, List, ◌∷◌, length, take, drop, refl, inr, arith}
use Rattle.std.proofs.Common.{Some, slice_get, sym, ◌∙◌, ap}
use Rattle.std.proofs.lemmas.Option.{IfSome_then}
use Rattle.flux_defs.specs.declared.requests.Need.{Need}
use Rattle.flux_defs.specs.Needs.{AreValidNeeds}
use Rattle.list_laws.proofs.Lists.{get_first}
use Rattle.dfu_match.specs.declared.knowing.Known.{Known}
use Rattle.dfu_match.specs.Tables.{needs_all}
use Rattle.dfu_match.specs.Pairs.{asked_totals}
use Rattle.dfu_match.proofs.AskSteps.{known_all, known_alone}
use Rattle.dfu_match.proofs.CountLaws as counts
use Rattle.dfu_match.proofs.StepLaws as steps
use Rattle.dfu_match.proofs.RefuteLaws.{known_refutes}
use Rattle.dfu_match.proofs.TableLaws as tables
use Rattle.dfu_match.proofs.asking.ask_known.Goals as goal

pub ask_rows-requires-clause-stands : goal.ask_rows-requires-clause-stands
ask_rows-requires-clause-stands g c =
    let items : List Need = c.items-need-items.result.now in
    let i = c.loop-need.need-index in
    let need = c.need-item.result in
    let split : drop i items ≡ need ∷ drop (i + 1) items = counts.item_split items i need c.loop-need-test.true
    c.need-item.is in
    tables.stand_first (needs_all c.args.s.now.needs.now) c.args.s.now.wanted.now c.loop-need.at (drop i items)
    (drop (i + 1) items) need split c.loop-need.invariant.stand

pub ask_rows-requires-clause-valid : goal.ask_rows-requires-clause-valid
ask_rows-requires-clause-valid g c =
    let vs = c.args.s.now.graph.now.resources.vertices in
    let items : List Need = c.items-need-items.result.now in
    let i = c.loop-need.need-index in
    let need = c.need-item.result in
    let split : drop i items ≡ need ∷ drop (i + 1) items = counts.item_split items i need c.loop-need-test.true
    c.need-item.is in
    let valid : AreValidNeeds vs items = rw c.items-need-items.ensures c.requires.valid in
    counts.valid_at vs items i need (drop (i + 1) items) split valid

pub ask_rows-requires-clause-of_own : goal.ask_rows-requires-clause-of_own
ask_rows-requires-clause-of_own g c =
    let items : List Need = c.items-need-items.result.now in
    let i = c.loop-need.need-index in
    let need = c.need-item.result in
    let split : drop i items ≡ need ∷ drop (i + 1) items = counts.item_split items i need c.loop-need-test.true
    c.need-item.is in
    let own = c.loop-need.invariant.own in
    rw own (rw c.items-need-items.ensures at (get_first items (drop (i + 1) items) i need split))

pub index_after-at-requires : goal.index_after-at-requires
index_after-at-requires g c =
    let items : List Need = c.items-need-items.result.now in
    let i = c.loop-need.need-index in
    let need = c.need-item.result in
    let split : drop i items ≡ need ∷ drop (i + 1) items = counts.item_split items i need c.loop-need-test.true
    c.need-item.is in
    record {
      stands = tables.stand_first (needs_all c.args.s.now.needs.now) c.args.s.now.wanted.now c.loop-need.at
          (drop i items) (drop (i + 1) items) need split c.loop-need.invariant.stand;
    }

pub loop-need-init : goal.loop-need-init
loop-need-init g c = record {
  stand = rw c.items-need-items.ensures (inr (steps.first_place c.args.s.now.needs.now));
  own = refl;
  known = refl;
  steps = refl;
}

pub loop-need-preserved : goal.loop-need-preserved
loop-need-preserved g c =
    let items : List Need = c.items-need-items.result.now in
    let i = c.loop-need.need-index in
    let need = c.need-item.result in
    let split : drop i items ≡ need ∷ drop (i + 1) items = counts.item_split items i need c.loop-need-test.true
    c.need-item.is in
    record {
      stand = tables.stand_next (needs_all c.args.s.now.needs.now) c.args.s.now.wanted.now c.loop-need.at
          c.index_after-at.result (drop i items) (drop (i + 1) items) need split c.index_after-at.ensures
          c.loop-need.invariant.stand;
      own = (let own = c.loop-need.invariant.own in let next = c.saturating_add-own.ensures in
          omega (arith, own, next));
      known = c.loop-need.invariant.known;
      steps = c.loop-need.invariant.steps;
    }

pub returns-then-own-clause-work : goal.returns-then-own-clause-work
returns-then-own-clause-work g c = λ present stands.
    let s = c.args.s.now in
    let vs = s.graph.now.resources.vertices in
    let all = needs_all s.needs.now in
    let items : List Need = c.items-need-items.result.now in
    let i = c.loop-need.need-index in
    let need = c.need-item.result in
    let split : drop i items ≡ need ∷ drop (i + 1) items = counts.item_split items i need c.loop-need-test.true
    c.need-item.is in
    let keeps = asked_totals s.wanted.now (g.F.FreeView.keeps s.view.now) in
    let look = (length all + 2) * g.F.FreeView.cost s.view.now in
    let place = 0 + length (needs_all (take i items)) in
    let here = tables.place_first all place (drop i items) (drop (i + 1) items) need split
    (tables.place_from all i 0 items (rw c.items-need-items.ensures (steps.first_place s.needs.now))) in
    let taken = c.ask_rows.ensures.work present stands place here in (
      known_all _ look (length vs) items i need c.loop-need-test.true c.need-item.is s.needs.now
          c.items-need-items.ensures c.args.steps.now c.loop-need.steps c.ask_rows.new.steps c.loop-need.invariant.steps
          taken.0,
      λ one is spread. known_alone _ look (length vs) items i need c.loop-need-test.true c.need-item.is s.needs.now
          c.items-need-items.ensures c.args.steps.now c.loop-need.steps c.ask_rows.new.steps c.loop-need.invariant.steps
          one is spread taken.1,
    )

pub returns-clause-work : goal.returns-clause-work
returns-clause-work g c = λ present stands.
    let same = c.loop-need.invariant.steps in (
      λ pairs has. omega (arith, same),
      λ need is spread pairs has. omega (arith, same),
    )

-- its rows, which are of all vertices of the need, leave too little
pub returns-then-own-clause-none : goal.returns-then-own-clause-none
returns-then-own-clause-none g c = λ present stands w.
    IfSome_then c.ask_rows.result c.ask_rows.ensures.less (λ until told reach.
    let s = c.args.s.now in
    let items : List Need = c.items-need-items.result.now in
    let i = c.loop-need.need-index in
    let need = c.need-item.result in
    let split : drop i items ≡ need ∷ drop (i + 1) items = counts.item_split items i need c.loop-need-test.true
    c.need-item.is in
    let there : slice_get s.needs.now c.loop-need.own ≡ Some need =
    rw c.loop-need.invariant.own
    (rw c.items-need-items.ensures at (get_first items (drop (i + 1) items) i need split)) in
    let same : c.ask_rows.new.known.own ≡ c.loop-need.own =
    c.ask_rows.ensures.own ∙ sym c.own.ensures ∙ c.if-own.true in
    let end : c.ask_rows.new.known.end ≡ length s.graph.now.resources.vertices =
    c.ask_rows.ensures.end ∙ ap (λ (k : Known). k.end) c.loop-need.invariant.known ∙ c.requires.all in
    known_refutes s.graph.now.resources (g.F.FreeView.stands_for s.view.now) s.barred.now s.needs.now s.window w
    c.ask_rows.new.known c.loop-need.own need until c.requires.valid c.ask_rows.ensures.known end same there told.1
    reach present stands)
