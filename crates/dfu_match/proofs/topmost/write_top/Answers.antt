use Rattle.std.proofs.Common.{◌≡◌, ◌+◌, ◌*◌, ◌<◌, ◌≤◌, zero, suc, refl, ap, arith, get_or, List, [], ◌∷◌, ◌++◌, length}
use Rattle.std.proofs.Common.{take, drop}
use Rattle.std.specs.List.{AllByRecursion}
use Rattle.dfu_match.specs.Pairs.{Pair, HasEachOpen, IsPlaceOf, IsPlaceOfAll, AreLooksAll, TakesApart, TakesEach}
use Rattle.std.proofs.Common.{ℕ, None, subst, inr}
use Rattle.std.proofs.lemmas.List.{drop_all}
use Rattle.flux_defs.specs.declared.claims.Claim.{Claim}
use Rattle.flux_defs.specs.declared.requests.Need.{Need}
use Rattle.flux_defs.specs.Needs.{AreValidNeeds}
use Rattle.match_laws.proofs.NeedLists.{group_at, completes_next, completes_end}
use Rattle.flux_defs.specs.Graph.{Everywhere}
use Rattle.dfu_match.specs.Searches.{open_to}
use Rattle.list_laws.proofs.Lists.{get_first}
use Rattle.dfu_match.specs.Tables.{all_of, needs_all}
use Rattle.dfu_match.proofs.ApartLaws.{apart_each}
use Rattle.dfu_match.proofs.RowLaws.{knows_turned}
use Rattle.dfu_match.proofs.TableLaws as tables
use Rattle.dfu_match.proofs.TableLaws.{all_some}
use Rattle.dfu_match.proofs.CountLaws as counts
use Rattle.dfu_match.proofs.WriteLaws as laws
use Rattle.dfu_match.specs.Pairs.{IsClearScope, asked_totals}
use Rattle.dfu_match.proofs.PairLaws.{takes_none}
use Rattle.dfu_match.proofs.StepLaws as steps
use Rattle.dfu_match.proofs.topmost.write_top.Goals as goal

-- each look of a group is one of so many
group_each : (each : List Pair → Type 0) (look times place from to : ℕ) (need : Need) (old new : ℕ) → 1 ≤ times →
    TakesApart each look (times * look) old new place (place + length (all_of need)) from to →
    TakesEach each (times * look) old new place (place + length (all_of need)) from to
group_each each look times place from to need old new some t =
    let one = all_some need in
    apart_each each look (times * look) old new place (place + length (all_of need)) from to
    (steps.times_costs times look some) (omega (arith, one)) t

-- one need alone is the first, and nothing was asked before it
alone_group : (each : List Pair → Type 0) (look inner : ℕ) (all items : List Need) (i : ℕ) (need one : Need) →
    i < length items → need ≡ get_or items i need → items ≡ one ∷ [] → (start old new place from to : ℕ) →
    IsPlaceOfAll all place items → (i ≡ 0 → old ≡ start) →
    ((at : ℕ) → IsPlaceOf all at need → TakesApart each look inner old new at (at + length (all_of need)) from to) →
    TakesApart each look inner start new place (place + length (all_of one)) from to
alone_group each look inner all [] i need one lt at is start old new place from to here before group = absurd (cc)
alone_group each look inner all (x ∷ []) zero need one lt at is start old new place from to here before group =
    let same : need ≡ one = cc in
    let found = group place (tables.place_first all place (x ∷ []) [] need (cc) here) in
    subst (λ (n : Need). TakesApart each look inner start new place (place + length (all_of n)) from to) same
    (subst (λ (k : ℕ). TakesApart each look inner k new place (place + length (all_of need)) from to) (before refl)
    found)
alone_group each look inner all (x ∷ []) (suc i) need one lt at is start old new place from to here before group =
    absurd (omega arith)
alone_group each look inner all (x ∷ y ∷ more) i need one lt at is start old new place from to here before group =
    absurd (cc)

-- what is told of a list of needs is told of the same list
needs_same : (each : List Pair → Type 0) (P : Need → Type 0) (all items needs : List Need) → items ≡ needs →
    (look steps old new place from to times : ℕ) →
    (IsPlaceOfAll all place items → AllByRecursion P items → AreLooksAll times items →
    TakesEach each steps old new place (place + length (needs_all items)) from to
    × ((need : Need) → items ≡ need ∷ [] →
    TakesApart each look steps old new place (place + length (all_of need)) from to)) →
    IsPlaceOfAll all place needs → AllByRecursion P needs → AreLooksAll times needs →
    TakesEach each steps old new place (place + length (needs_all needs)) from to
    × ((need : Need) → needs ≡ need ∷ [] →
    TakesApart each look steps old new place (place + length (all_of need)) from to)
needs_same each P all items needs e look steps old new place from to times =
    subst (λ (ns : List Need). IsPlaceOfAll all place ns → AllByRecursion P ns → AreLooksAll times ns →
    TakesEach each steps old new place (place + length (needs_all ns)) from to
    × ((need : Need) → ns ≡ need ∷ [] →
    TakesApart each look steps old new place (place + length (all_of need)) from to)) e

pub write_top_group-requires-clause-stands : goal.write_top_group-requires-clause-stands
write_top_group-requires-clause-stands g c =
    let items : List Need = c.items-need-items.result.now in
    let i = c.loop-need.need-index in
    let need = c.need-item.result in
    let split : drop i items ≡ need ∷ drop (i + 1) items = counts.item_split items i need c.loop-need-test.true
    c.need-item.is in
    tables.stand_first (needs_all c.args.s.now.needs.now) c.args.s.now.wanted.now c.loop-need.at (drop i items)
    (drop (i + 1) items) need split c.loop-need.invariant.stand

pub write_top_group-requires-clause-valid : goal.write_top_group-requires-clause-valid
write_top_group-requires-clause-valid g c =
    let vs = c.args.s.now.graph.now.resources.vertices in
    let items : List Need = c.items-need-items.result.now in
    let i = c.loop-need.need-index in
    let need = c.need-item.result in
    let split : drop i items ≡ need ∷ drop (i + 1) items = counts.item_split items i need c.loop-need-test.true
    c.need-item.is in
    let valid : AreValidNeeds vs items = rw c.items-need-items.ensures c.requires.valid in
    counts.valid_at vs items i need (drop (i + 1) items) split valid

pub write_top_group-requires-clause-of_own : goal.write_top_group-requires-clause-of_own
write_top_group-requires-clause-of_own g c =
    let items : List Need = c.items-need-items.result.now in
    let i = c.loop-need.need-index in
    let need = c.need-item.result in
    let split : drop i items ≡ need ∷ drop (i + 1) items = counts.item_split items i need c.loop-need-test.true
    c.need-item.is in
    let own = c.loop-need.invariant.own in
    rw own (rw c.items-need-items.ensures at (get_first items (drop (i + 1) items) i need split))

pub index_after-at-requires : goal.index_after-at-requires
index_after-at-requires g c =
    let items : List Need = c.items-need-items.result.now in
    let i = c.loop-need.need-index in
    let need = c.need-item.result in
    let split : drop i items ≡ need ∷ drop (i + 1) items = counts.item_split items i need c.loop-need-test.true
    c.need-item.is in
    record {
      stands = tables.stand_first (needs_all c.args.s.now.needs.now) c.args.s.now.wanted.now c.loop-need.at
          (drop i items) (drop (i + 1) items) need split c.loop-need.invariant.stand;
    }

pub loop-need-init : goal.loop-need-init
loop-need-init g c = record {
  stand = rw c.items-need-items.ensures (inr (steps.first_place c.args.s.now.needs.now));
  known = c.requires.known;
  written = laws.extends_none c.args.out.now.items _ (λ present stands rest low. low);
  own = refl;
  taken = λ present stands place from to times here clear span look.
      takes_none _ _ c.args.steps.now place (place + 0) from to;
  alone = λ present stands place from to times here clear span look need one. (λ e. refl, λ le. absurd (omega arith));
}

pub returns-then-not-filled-clause-written : goal.returns-then-not-filled-clause-written
returns-then-not-filled-clause-written g c =
    let items : List Need = c.items-need-items.result.now in
    let i = c.loop-need.need-index in
    let need = c.need-item.result in
    let split : drop i items ≡ need ∷ drop (i + 1) items = counts.item_split items i need c.loop-need-test.true
    c.need-item.is in
    let before = c.loop-need.invariant.written in
    let wrote = c.in_ok-filled.ensures.written in (
      before.0 ++ wrote.0,
      laws.extends_twice c.args.out.now.items c.loop-need.out.items c.write_top_group.new.out.items before.0 wrote.0
          before.1 wrote.1,
      λ present stands fit.
          let vs = c.args.s.now.graph.now.resources.vertices in
          let ok : Claim → Type 0 = open_to vs present c.args.s.now.barred.now c.args.s.now.window in
          let never = rw c.if-not-filled.true at (wrote.2 present stands) in
          never (group_at vs ok 1 Everywhere items i need (drop (i + 1) items) split
          (rw c.items-need-items.ensures fit)),
    )

pub loop-need-preserved : goal.loop-need-preserved
loop-need-preserved g c =
    let items : List Need = c.items-need-items.result.now in
    let i = c.loop-need.need-index in
    let need = c.need-item.result in
    let split : drop i items ≡ need ∷ drop (i + 1) items = counts.item_split items i need c.loop-need-test.true
    c.need-item.is in
    let before = c.loop-need.invariant.written in
    let wrote = c.in_ok-filled.ensures.written in
    record {
      stand = tables.stand_next (needs_all c.args.s.now.needs.now) c.args.s.now.wanted.now c.loop-need.at
          c.index_after-at.result (drop i items) (drop (i + 1) items) need split c.index_after-at.ensures
          c.loop-need.invariant.stand;
      known = c.write_top_group.ensures.known;
      own = (let own = c.loop-need.invariant.own in let next = c.saturating_add-own.ensures in
          omega (arith, own, next));
      written = (
        before.0 ++ wrote.0,
        laws.extends_twice c.args.out.now.items c.loop-need.out.items c.write_top_group.new.out.items before.0 wrote.0
            before.1 wrote.1,
        λ present stands.
            let vs = c.args.s.now.graph.now.resources.vertices in
            let ok : Claim → Type 0 = open_to vs present c.args.s.now.barred.now c.args.s.now.window in
            let group = rw c.if-not-filled.false at (wrote.2 present stands) in
            completes_next vs ok 1 Everywhere items (drop i items) (drop (i + 1) items) need
            before.0 wrote.0 split group (before.2 present stands),
      );
      taken = λ present stands place from to times here clear span look.
          let all = needs_all c.args.s.now.needs.now in
          let each = times * ((length all + 2) * g.F.FreeView.cost c.args.s.now.view.now) in
          let keeps = asked_totals c.args.s.now.wanted.now (g.F.FreeView.keeps c.args.s.now.view.now) in
          let before = length (needs_all (take i items)) in
          let place' = tables.place_first all (place + before) (drop i items) (drop (i + 1) items) need split
          (tables.place_from all i place items here) in
          let scope = counts.each_at (IsClearScope c.args.s.now.graph.now.resources.vertices present c.args.s.now.window
          keeps None) items i need (drop (i + 1) items) split clear in
          let look' = steps.looks_at times items i need (drop (i + 1) items) split look in
          steps.listed_next _ each c.args.steps.now c.loop-need.steps c.write_top_group.new.steps place from to items
          (drop (i + 1) items) i need c.loop-need-test.true c.need-item.is
          (c.loop-need.invariant.taken present stands place from to times here clear span look)
          (group_each _ _ times (place + before) from to need c.loop-need.steps c.write_top_group.new.steps
          (steps.looks_some times need look')
          (c.write_top_group.ensures.work present stands (place + before) from to times place' scope span look'));
      alone = λ present stands place from to times here clear span look one is.
          let all = needs_all c.args.s.now.needs.now in
          let keeps = asked_totals c.args.s.now.wanted.now (g.F.FreeView.keeps c.args.s.now.view.now) in
          let scope = counts.each_at (IsClearScope c.args.s.now.graph.now.resources.vertices present c.args.s.now.window
          keeps None) items i need (drop (i + 1) items) split clear in (
            λ e. absurd (omega arith),
            λ le. alone_group _ _ _ all items i need one c.loop-need-test.true c.need-item.is is
                c.args.steps.now c.loop-need.steps c.write_top_group.new.steps place from to here
                (c.loop-need.invariant.alone present stands place from to times here clear span look one is).0
                (λ at there. c.write_top_group.ensures.work present stands at from to times there scope span
                (steps.looks_at times items i need (drop (i + 1) items) split look)),
          );
    }

pub returns-clause-written : goal.returns-clause-written
returns-clause-written g c =
    let items : List Need = c.items-need-items.result.now in
    let wrote = c.loop-need.invariant.written in (
      wrote.0,
      wrote.1,
      λ present stands.
          let vs = c.args.s.now.graph.now.resources.vertices in
          let ok : Claim → Type 0 = open_to vs present c.args.s.now.barred.now c.args.s.now.window in
          rw (← c.items-need-items.ensures) (completes_end vs ok 1 Everywhere items
          (drop c.loop-need.need-index items) wrote.0
          (drop_all c.loop-need.need-index items c.loop-need-test.false) (wrote.2 present stands)),
    )

pub returns-in_err-filled-clause-work : goal.returns-in_err-filled-clause-work
returns-in_err-filled-clause-work g c = λ present stands place from to times here clear span look.
    let s = c.args.s.now in
    let vs = s.graph.now.resources.vertices in
    let all = needs_all s.needs.now in
    let items : List Need = c.items-need-items.result.now in
    let keeps = asked_totals s.wanted.now (g.F.FreeView.keeps s.view.now) in
    let open' : List Pair → Type 0 = HasEachOpen vs present s.window keeps all in
    let clears : Need → Type 0 = IsClearScope vs present s.window keeps None in
    let one = (length all + 2) * g.F.FreeView.cost s.view.now in
    let each = times * one in
    let i = c.loop-need.need-index in
    needs_same open' clears all items s.needs.now c.items-need-items.ensures one each c.args.steps.now
    c.write_top_group.new.steps place from to times (λ here clear look. (
      steps.listed_over open' clears all items i c.need-item.result c.loop-need-test.true c.need-item.is each
          c.args.steps.now c.loop-need.steps c.write_top_group.new.steps place from to times here clear look
          (c.loop-need.invariant.taken present stands place from to times here clear span look)
          (λ at there open'' few. group_each _ _ times at from to c.need-item.result c.loop-need.steps
          c.write_top_group.new.steps (steps.looks_some times c.need-item.result few)
          (c.write_top_group.ensures.work present stands at from to times there open'' span few)),
      λ need is. alone_group _ _ _ all items i c.need-item.result need c.loop-need-test.true c.need-item.is is
          c.args.steps.now c.loop-need.steps c.write_top_group.new.steps place from to here
          (c.loop-need.invariant.alone present stands place from to times here clear span look need is).0
          (λ at there.
          let split : drop i items ≡ c.need-item.result ∷ drop (i + 1) items =
          counts.item_split items i c.need-item.result c.loop-need-test.true c.need-item.is in
          c.write_top_group.ensures.work present stands at from to times there
          (counts.each_at clears items i c.need-item.result (drop (i + 1) items) split clear) span
          (steps.looks_at times items i c.need-item.result (drop (i + 1) items) split look)),
    )) here clear look

pub returns-then-not-filled-clause-work : goal.returns-then-not-filled-clause-work
returns-then-not-filled-clause-work g c = λ present stands place from to times here clear span look.
    let s = c.args.s.now in
    let vs = s.graph.now.resources.vertices in
    let all = needs_all s.needs.now in
    let items : List Need = c.items-need-items.result.now in
    let keeps = asked_totals s.wanted.now (g.F.FreeView.keeps s.view.now) in
    let open' : List Pair → Type 0 = HasEachOpen vs present s.window keeps all in
    let clears : Need → Type 0 = IsClearScope vs present s.window keeps None in
    let one = (length all + 2) * g.F.FreeView.cost s.view.now in
    let each = times * one in
    let i = c.loop-need.need-index in
    needs_same open' clears all items s.needs.now c.items-need-items.ensures one each c.args.steps.now
    c.write_top_group.new.steps place from to times (λ here clear look. (
      steps.listed_over open' clears all items i c.need-item.result c.loop-need-test.true c.need-item.is each
          c.args.steps.now c.loop-need.steps c.write_top_group.new.steps place from to times here clear look
          (c.loop-need.invariant.taken present stands place from to times here clear span look)
          (λ at there open'' few. group_each _ _ times at from to c.need-item.result c.loop-need.steps
          c.write_top_group.new.steps (steps.looks_some times c.need-item.result few)
          (c.write_top_group.ensures.work present stands at from to times there open'' span few)),
      λ need is. alone_group _ _ _ all items i c.need-item.result need c.loop-need-test.true c.need-item.is is
          c.args.steps.now c.loop-need.steps c.write_top_group.new.steps place from to here
          (c.loop-need.invariant.alone present stands place from to times here clear span look need is).0
          (λ at there.
          let split : drop i items ≡ c.need-item.result ∷ drop (i + 1) items =
          counts.item_split items i c.need-item.result c.loop-need-test.true c.need-item.is in
          c.write_top_group.ensures.work present stands at from to times there
          (counts.each_at clears items i c.need-item.result (drop (i + 1) items) split clear) span
          (steps.looks_at times items i c.need-item.result (drop (i + 1) items) split look)),
    )) here clear look

pub returns-clause-work : goal.returns-clause-work
returns-clause-work g c = λ present stands place from to times here clear span look.
    let s = c.args.s.now in
    let vs = s.graph.now.resources.vertices in
    let all = needs_all s.needs.now in
    let items : List Need = c.items-need-items.result.now in
    let keeps = asked_totals s.wanted.now (g.F.FreeView.keeps s.view.now) in
    let open' : List Pair → Type 0 = HasEachOpen vs present s.window keeps all in
    let clears : Need → Type 0 = IsClearScope vs present s.window keeps None in
    let one = (length all + 2) * g.F.FreeView.cost s.view.now in
    let each = times * one in
    let i = c.loop-need.need-index in
    needs_same open' clears all items s.needs.now c.items-need-items.ensures one each c.args.steps.now
    c.loop-need.steps place from to times (λ here clear look. (
      steps.listed_end open' each c.args.steps.now c.loop-need.steps place from to items i
          (c.loop-need.invariant.taken present stands place from to times here clear span look),
      λ need is.
          let few : length items ≡ 1 = ap length is in
          let over = c.loop-need-test.false in
          (c.loop-need.invariant.alone present stands place from to times here clear span look need is).1
          (omega (arith, few, over)),
    )) here clear look

pub returns-then-not-filled-clause-known : goal.returns-then-not-filled-clause-known
returns-then-not-filled-clause-known g c =
    let s = c.args.s.now in
    knows_turned s.graph.now.resources.vertices (g.F.FreeView.stands_for s.view.now) s.barred.now s.needs.now s.window
    c.loop-need.own c.write_top_group.new.known c.turn_to.new.self c.turn_to.ensures.own c.turn_to.ensures.turned
    c.write_top_group.ensures.known
