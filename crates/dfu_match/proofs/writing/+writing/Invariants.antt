use Rattle.std.proofs.Common.{◌-◌, ◌+◌, ◌*◌, ◌≤◌, ℕ, length, take, drop}
use Rattle.std.specs.List.{AllByRecursion}
use Rattle.flux_defs.specs.Needs.{amount_of}
use Rattle.flux_defs.specs.Lowest.{CanServe, LowestPiece}
use Rattle.flux_defs.specs.Present.{InEach}
use Rattle.match_laws.specs.Offers.{Extends}
use Rattle.match_laws.proofs.Walk.{Filled}
use Rattle.match_laws.proofs.NeedLists.{Completes}
use Rattle.dfu_match.specs.Tables.{needs_all, StandAt}
use Rattle.dfu_match.specs.Pairs.{HasEachOpen, IsClearScope, IsPlaceOf, IsPlaceOfAll, IsSpanOf, AreLooks, AreLooksAll}
use Rattle.dfu_match.specs.Pairs.{TakesEach, asked_totals}
use Rattle.dfu_match.proofs.StepLaws.{Walked}
use Rattle.dfu_match.specs.Searches.{open_to, scope_of}
use Rattle.dfu_match.proofs.writing.+writing.Given as goal

-- the lowest-first claims of the needs that are left complete what was written
abbrev pub invariant-write_needs-loop-need : goal.invariant-write_needs-loop-need
invariant-write_needs-loop-need g l = record {
  stand : StandAt (needs_all l.s.needs.now) l.s.wanted.now l.at (drop l.need-index l.need-items);
  written : Extends l.initial.out.items l.out.items
      (λ claims. InEach (g.F.FreeView.stands_for l.s.view.now) (λ present. Completes l.s.graph.now.resources.vertices
      (open_to l.s.graph.now.resources.vertices present l.s.barred.now l.s.window) l.k (scope_of l.scope) l.need-items
      (drop l.need-index l.need-items) claims));
  taken : InEach (g.F.FreeView.stands_for l.s.view.now) (λ present. (place from to times : ℕ) →
      IsPlaceOfAll (needs_all l.s.needs.now) place l.need-items →
      AllByRecursion (IsClearScope l.s.graph.now.resources.vertices present l.s.window
      (asked_totals l.s.wanted.now (g.F.FreeView.keeps l.s.view.now)) l.scope) l.need-items →
      IsSpanOf l.s.graph.now.resources.vertices l.scope from to → AreLooksAll times l.need-items →
      TakesEach (HasEachOpen l.s.graph.now.resources.vertices present l.s.window
      (asked_totals l.s.wanted.now (g.F.FreeView.keeps l.s.view.now)) (needs_all l.s.needs.now))
      (times * ((length (needs_all l.s.needs.now) + 2) * g.F.FreeView.cost l.s.view.now)) l.initial.steps l.steps place
      (place + length (needs_all (take l.need-index l.need-items))) from to);
}

-- the vertices before `at` have served all that they can, and `missing` is left
abbrev pub invariant-write_group-loop-missing : goal.invariant-write_group-loop-missing
invariant-write_group-loop-missing g l = record {
  within : l.missing ≤ l.fn.k * amount_of l.need;
  from : l.span.from ≤ l.at;
  written : Extends l.initial.out.items l.out.items
      (λ claims. InEach (g.F.FreeView.stands_for l.s.view.now)
      (λ present. Filled (CanServe l.s.graph.now.resources.vertices
      (open_to l.s.graph.now.resources.vertices present l.s.barred.now l.s.window) (scope_of l.fn.scope) l.need)
      (LowestPiece l.s.graph.now.resources.vertices
      (open_to l.s.graph.now.resources.vertices present l.s.barred.now l.s.window) l.need)
      (l.fn.k * amount_of l.need) l.at l.missing claims));
  walked : InEach (g.F.FreeView.stands_for l.s.view.now) (λ present. (place times : ℕ) →
      IsPlaceOf (needs_all l.s.needs.now) place l.need →
      IsClearScope l.s.graph.now.resources.vertices present l.s.window
      (asked_totals l.s.wanted.now (g.F.FreeView.keeps l.s.view.now)) l.fn.scope l.need → AreLooks times l.need →
      Walked l.s.graph.now.resources.vertices present l.s.window
      (asked_totals l.s.wanted.now (g.F.FreeView.keeps l.s.view.now)) (needs_all l.s.needs.now) l.need place
      (times * ((length (needs_all l.s.needs.now) + 2) * g.F.FreeView.cost l.s.view.now)) l.initial.steps l.steps
      l.span.from l.at l.span.to);
}

abbrev pub decreases-write_group-loop-missing : goal.decreases-write_group-loop-missing
decreases-write_group-loop-missing g l = l.span.to - l.at
