use Rattle.std.proofs.Common.{◌≡◌, ◌-◌, ◌+◌, ◌*◌, ◌≤◌, ℕ, length, min}
use Rattle.dfu_match.specs.Searches.{open_to}
use Rattle.dfu_match.specs.Walks.{ServesNone}
use Rattle.dfu_match.specs.Tables.{all_of, needs_all}
use Rattle.dfu_match.specs.Pairs.{HasEachOpen, IsClearBefore, IsPlaceOf, TakesEach, asked_totals}
use Rattle.dfu_match.specs.Rows.{Knows}
use Rattle.dfu_match.proofs.topmost.next_open_known.Given as goal
use Rattle.flux_defs.specs.Present.{InEach}

-- what the walk has passed over can't serve the need, and before `low` none is short above what follows
abbrev pub invariant-look : goal.invariant-look
invariant-look g l = record {
  later : l.from ≤ l.low;
  order : l.low ≤ l.at;
  skipped : InEach (g.F.FreeView.stands_for l.s.view.now) (λ present. ServesNone l.s.graph.now.resources.vertices
      (open_to l.s.graph.now.resources.vertices present l.s.barred.now l.s.window) l.need l.from l.at);
  known : Knows l.s.graph.now.resources.vertices (g.F.FreeView.stands_for l.s.view.now) l.s.barred.now l.s.needs.now
      l.s.window l.known;
  own : l.known.own ≡ l.initial.known.own;
  clear : InEach (g.F.FreeView.stands_for l.s.view.now)
      (λ present. IsClearBefore l.s.graph.now.resources.vertices present l.s.window
      (asked_totals l.s.wanted.now (g.F.FreeView.keeps l.s.view.now)) l.need l.from l.to →
      IsClearBefore l.s.graph.now.resources.vertices present l.s.window
      (asked_totals l.s.wanted.now (g.F.FreeView.keeps l.s.view.now)) l.need l.low l.to);
  taken : InEach (g.F.FreeView.stands_for l.s.view.now) (λ present. (place : ℕ) →
      IsPlaceOf (needs_all l.s.needs.now) place l.need →
      IsClearBefore l.s.graph.now.resources.vertices present l.s.window
      (asked_totals l.s.wanted.now (g.F.FreeView.keeps l.s.view.now)) l.need l.from l.to →
      TakesEach (HasEachOpen l.s.graph.now.resources.vertices present l.s.window
      (asked_totals l.s.wanted.now (g.F.FreeView.keeps l.s.view.now)) (needs_all l.s.needs.now))
      (length (all_of l.need) * g.F.FreeView.cost l.s.view.now) l.initial.steps l.steps place (place + 1) l.from
      (min l.low l.to));
}

abbrev pub decreases-look : goal.decreases-look
decreases-look g l = length l.s.graph.now.resources.vertices - l.at
