use Rattle.std.proofs.Common.{◌≡◌, ◌-◌, ◌+◌, ◌*◌, ◌≤◌, ℕ, length}
use Rattle.flux_defs.specs.Lowest.{CanServe, LowestPiece}
use Rattle.flux_defs.specs.Present.{InEach}
use Rattle.match_laws.specs.Offers.{Extends}
use Rattle.dfu_match.specs.Tables.{needs_all}
use Rattle.dfu_match.specs.Pairs.{IsClearScope, IsPlaceOf, asked_totals}
use Rattle.dfu_match.specs.Searches.{open_to, scope_of}
use Rattle.dfu_match.proofs.StepLaws.{Walked}
use Rattle.dfu_match.proofs.HoldingLaws.{FilledUpTo}
use Rattle.dfu_match.proofs.holding.write_held.Given as goal

-- the vertices before `at` that may be held are held, and so many are
abbrev pub invariant-loop-reached : goal.invariant-loop-reached
invariant-loop-reached g l = record {
  within : l.reached ≤ l.most;
  from : l.span.from ≤ l.at;
  each : length l.out.items ≡ length l.initial.out.items + l.reached;
  written : Extends l.initial.out.items l.out.items
      (λ claims. InEach (g.F.FreeView.stands_for l.s.view.now)
      (λ present. FilledUpTo (CanServe l.s.graph.now.resources.vertices
      (open_to l.s.graph.now.resources.vertices present l.s.barred.now l.s.window) (scope_of l.fn.scope) l.need)
      (LowestPiece l.s.graph.now.resources.vertices
      (open_to l.s.graph.now.resources.vertices present l.s.barred.now l.s.window) l.need) l.most l.at l.reached
      claims));
  walked : InEach (g.F.FreeView.stands_for l.s.view.now) (λ present. (place : ℕ) →
      IsPlaceOf (needs_all l.s.needs.now) place l.need →
      IsClearScope l.s.graph.now.resources.vertices present l.s.window
      (asked_totals l.s.wanted.now (g.F.FreeView.keeps l.s.view.now)) l.fn.scope l.need →
      Walked l.s.graph.now.resources.vertices present l.s.window
      (asked_totals l.s.wanted.now (g.F.FreeView.keeps l.s.view.now)) (needs_all l.s.needs.now) l.need place
      ((length (needs_all l.s.needs.now) + 2) * g.F.FreeView.cost l.s.view.now) l.initial.steps l.steps l.span.from
      l.at l.span.to);
}

abbrev pub decreases-loop-reached : goal.decreases-loop-reached
decreases-loop-reached g l = l.span.to - l.at
