use Rattle.std.proofs.Common.{◌-◌, ◌+◌, ◌*◌, ◌≤◌, ℕ, length, min}
use Rattle.flux_defs.specs.declared.claims.Window.{Window}
use Rattle.dfu_match.specs.Searches.{open_to}
use Rattle.dfu_match.specs.Walks.{ServesNone}
use Rattle.dfu_match.specs.Tables.{all_of, needs_all}
use Rattle.dfu_match.specs.Pairs.{HasEachOpen, IsClearBefore, IsPlaceOf, TakesEach, asked_totals}
use Rattle.flux_defs.specs.Later.{ReachesOver}
use Rattle.flux_defs.specs.Present.{InEach}
use Rattle.dfu_match.specs.Reaches.{FallsWithin}
use Rattle.dfu_match.proofs.walking.next_open_until.Given as goal

-- what the walk has passed over can't serve the need
abbrev pub invariant-look : goal.invariant-look
invariant-look g l = record {
  later : l.from ≤ l.at;
  falls : FallsWithin l.s.window l.initial.until l.until;
  skipped : InEach (g.F.FreeView.stands_for l.s.view.now) (λ present. (w : Window) →
      ReachesOver l.s.window l.until w → ServesNone l.s.graph.now.resources.vertices
      (open_to l.s.graph.now.resources.vertices present l.s.barred.now w) l.need l.from l.at);
  clear : InEach (g.F.FreeView.stands_for l.s.view.now)
      (λ present. IsClearBefore l.s.graph.now.resources.vertices present l.s.window
      (asked_totals l.s.wanted.now (g.F.FreeView.keeps l.s.view.now)) l.need l.from l.to →
      IsClearBefore l.s.graph.now.resources.vertices present l.s.window
      (asked_totals l.s.wanted.now (g.F.FreeView.keeps l.s.view.now)) l.need l.at l.to);
  taken : InEach (g.F.FreeView.stands_for l.s.view.now) (λ present. (place : ℕ) →
      IsPlaceOf (needs_all l.s.needs.now) place l.need →
      IsClearBefore l.s.graph.now.resources.vertices present l.s.window
      (asked_totals l.s.wanted.now (g.F.FreeView.keeps l.s.view.now)) l.need l.from l.to →
      TakesEach (HasEachOpen l.s.graph.now.resources.vertices present l.s.window
      (asked_totals l.s.wanted.now (g.F.FreeView.keeps l.s.view.now)) (needs_all l.s.needs.now))
      (length (all_of l.need) * g.F.FreeView.cost l.s.view.now) l.initial.steps l.steps place (place + 1) l.from
      (min l.at l.to));
}

abbrev pub decreases-look : goal.decreases-look
decreases-look g l = length l.s.graph.now.resources.vertices - l.at
