use Rattle.std.proofs.Common.{◌-◌, ◌+◌, ◌*◌, ◌<◌, ◌≤◌, ℕ, length, take, drop}
use Rattle.flux_defs.specs.Lowest.{CanServe}
use Rattle.flux_defs.specs.Present.{InEach}
use Rattle.match_laws.specs.Offers.{SomeFits}
use Rattle.match_laws.proofs.Walk.{Reached}
use Rattle.match_laws.proofs.NeedLists.{AllFill}
use Rattle.std.specs.List.{AllByRecursion}
use Rattle.dfu_match.specs.Tables.{needs_all, StandAt}
use Rattle.dfu_match.specs.Pairs.{HasEachOpen, IsClearScope, IsPlaceOf, IsPlaceOfAll, IsSpanOf, TakesEach, asked_totals}
use Rattle.dfu_match.proofs.StepLaws.{Walked}
use Rattle.dfu_match.specs.Searches.{open_to, scope_of}
use Rattle.dfu_match.proofs.counting.+counting.Given as goal

-- the needs so far can be filled for as many copies, and no list for more
abbrev pub invariant-copies-loop-need : goal.invariant-copies-loop-need
invariant-copies-loop-need g l = record {
  stand : StandAt (needs_all l.s.needs.now) l.s.wanted.now l.at (drop l.need-index l.need-items);
  within : l.best ≤ l.most;
  enough : InEach (g.F.FreeView.stands_for l.s.view.now) (λ present. (k : ℕ) → k ≤ l.best →
      AllFill l.s.graph.now.resources.vertices (open_to l.s.graph.now.resources.vertices present l.s.barred.now
      l.s.window) (scope_of l.scope) k (drop l.need-index l.need-items) →
      AllFill l.s.graph.now.resources.vertices (open_to l.s.graph.now.resources.vertices present l.s.barred.now
      l.s.window) (scope_of l.scope) k l.need-items);
  full : InEach (g.F.FreeView.stands_for l.s.view.now) (λ present. l.best < l.most →
      SomeFits l.s.graph.now.resources.vertices
      (open_to l.s.graph.now.resources.vertices present l.s.barred.now l.s.window) (scope_of l.scope) l.need-items
      (l.best + 1) → ⊥);
  taken : InEach (g.F.FreeView.stands_for l.s.view.now) (λ present. (place from to : ℕ) →
      IsPlaceOfAll (needs_all l.s.needs.now) place l.need-items →
      AllByRecursion (IsClearScope l.s.graph.now.resources.vertices present l.s.window
      (asked_totals l.s.wanted.now (g.F.FreeView.keeps l.s.view.now)) l.scope) l.need-items →
      IsSpanOf l.s.graph.now.resources.vertices l.scope from to →
      TakesEach (HasEachOpen l.s.graph.now.resources.vertices present l.s.window
      (asked_totals l.s.wanted.now (g.F.FreeView.keeps l.s.view.now)) (needs_all l.s.needs.now))
      ((length (needs_all l.s.needs.now) + 2) * g.F.FreeView.cost l.s.view.now) l.initial.steps l.steps place
      (place + length (needs_all (take l.need-index l.need-items))) from to);
}

-- so much is reached before the vertex `at`
abbrev pub invariant-reach-loop-reached : goal.invariant-reach-loop-reached
invariant-reach-loop-reached g l = record {
  within : l.reached ≤ l.most;
  from : l.span.from ≤ l.at;
  reached : InEach (g.F.FreeView.stands_for l.s.view.now) (λ present. Reached (CanServe l.s.graph.now.resources.vertices
      (open_to l.s.graph.now.resources.vertices present l.s.barred.now l.s.window) (scope_of l.fn.scope) l.need)
      l.most l.at l.reached);
  walked : InEach (g.F.FreeView.stands_for l.s.view.now) (λ present. (place : ℕ) →
      IsPlaceOf (needs_all l.s.needs.now) place l.need →
      IsClearScope l.s.graph.now.resources.vertices present l.s.window
      (asked_totals l.s.wanted.now (g.F.FreeView.keeps l.s.view.now)) l.fn.scope l.need →
      Walked l.s.graph.now.resources.vertices present l.s.window
      (asked_totals l.s.wanted.now (g.F.FreeView.keeps l.s.view.now)) (needs_all l.s.needs.now) l.need place
      ((length (needs_all l.s.needs.now) + 2) * g.F.FreeView.cost l.s.view.now) l.initial.steps l.steps l.span.from
      l.at l.span.to);
}

abbrev pub decreases-reach-loop-reached : goal.decreases-reach-loop-reached
decreases-reach-loop-reached g l = l.span.to - l.at
