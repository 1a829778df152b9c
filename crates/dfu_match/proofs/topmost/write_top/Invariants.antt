use Rattle.std.proofs.Common.{◌≡◌, ◌+◌, ◌*◌, ◌≤◌, ℕ, [], ◌∷◌, None, length, take, drop}
use Rattle.std.specs.List.{AllByRecursion}
use Rattle.flux_defs.specs.declared.requests.Need.{Need}
use Rattle.flux_defs.specs.Graph.{Everywhere}
use Rattle.flux_defs.specs.Present.{InEach}
use Rattle.match_laws.specs.Offers.{Extends}
use Rattle.match_laws.proofs.NeedLists.{Completes}
use Rattle.dfu_match.specs.Tables.{all_of, needs_all, StandAt}
use Rattle.dfu_match.specs.Pairs.{HasEachOpen, IsClearScope, IsPlaceOfAll, IsSpanOf, AreLooksAll}
use Rattle.dfu_match.specs.Pairs.{TakesApart, TakesEach, asked_totals}
use Rattle.dfu_match.specs.Rows.{Knows}
use Rattle.dfu_match.specs.Searches.{open_to}
use Rattle.dfu_match.proofs.topmost.write_top.Given as goal

-- the lowest-first claims of the needs that are left complete what was written
abbrev pub invariant-loop-need : goal.invariant-loop-need
invariant-loop-need g l = record {
  stand : StandAt (needs_all l.s.needs.now) l.s.wanted.now l.at (drop l.need-index l.need-items);
  written : Extends l.initial.out.items l.out.items
      (λ claims. InEach (g.F.FreeView.stands_for l.s.view.now) (λ present. Completes l.s.graph.now.resources.vertices
      (open_to l.s.graph.now.resources.vertices present l.s.barred.now l.s.window) 1 Everywhere l.need-items
      (drop l.need-index l.need-items) claims));
  known : Knows l.s.graph.now.resources.vertices (g.F.FreeView.stands_for l.s.view.now) l.s.barred.now l.s.needs.now
      l.s.window l.known;
  own : l.own ≡ l.need-index;
  taken : InEach (g.F.FreeView.stands_for l.s.view.now) (λ present. (place from to times : ℕ) →
      IsPlaceOfAll (needs_all l.s.needs.now) place l.need-items →
      AllByRecursion (IsClearScope l.s.graph.now.resources.vertices present l.s.window
      (asked_totals l.s.wanted.now (g.F.FreeView.keeps l.s.view.now)) None) l.need-items →
      IsSpanOf l.s.graph.now.resources.vertices None from to → AreLooksAll times l.need-items →
      TakesEach (HasEachOpen l.s.graph.now.resources.vertices present l.s.window
      (asked_totals l.s.wanted.now (g.F.FreeView.keeps l.s.view.now)) (needs_all l.s.needs.now))
      (times * ((length (needs_all l.s.needs.now) + 2) * g.F.FreeView.cost l.s.view.now)) l.initial.steps l.steps place
      (place + length (needs_all (take l.need-index l.need-items))) from to);
  alone : InEach (g.F.FreeView.stands_for l.s.view.now) (λ present. (place from to times : ℕ) →
      IsPlaceOfAll (needs_all l.s.needs.now) place l.need-items →
      AllByRecursion (IsClearScope l.s.graph.now.resources.vertices present l.s.window
      (asked_totals l.s.wanted.now (g.F.FreeView.keeps l.s.view.now)) None) l.need-items →
      IsSpanOf l.s.graph.now.resources.vertices None from to → AreLooksAll times l.need-items →
      (need : Need) → l.need-items ≡ need ∷ [] →
      (l.need-index ≡ 0 → l.steps ≡ l.initial.steps)
      × (1 ≤ l.need-index → TakesApart (HasEachOpen l.s.graph.now.resources.vertices present l.s.window
      (asked_totals l.s.wanted.now (g.F.FreeView.keeps l.s.view.now)) (needs_all l.s.needs.now))
      ((length (needs_all l.s.needs.now) + 2) * g.F.FreeView.cost l.s.view.now)
      (times * ((length (needs_all l.s.needs.now) + 2) * g.F.FreeView.cost l.s.view.now)) l.initial.steps l.steps place
      (place + length (all_of need)) from to));
}
