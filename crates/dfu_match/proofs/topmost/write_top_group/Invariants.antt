use Rattle.std.proofs.Common.{◌-◌, ◌+◌, ◌*◌, ◌≤◌, ℕ, None, length}
use Rattle.flux_defs.specs.Needs.{amount_of}
use Rattle.flux_defs.specs.Graph.{Everywhere}
use Rattle.flux_defs.specs.Lowest.{CanServe, LowestPiece}
use Rattle.flux_defs.specs.Present.{InEach}
use Rattle.match_laws.specs.Offers.{Extends}
use Rattle.match_laws.proofs.Walk.{Filled}
use Rattle.dfu_match.specs.Tables.{needs_all}
use Rattle.dfu_match.specs.Pairs.{IsClearScope, IsPlaceOf, AreLooks}
use Rattle.dfu_match.specs.Pairs.{asked_totals}
use Rattle.dfu_match.specs.Rows.{Knows}
use Rattle.dfu_match.proofs.ApartLaws.{Visited}
use Rattle.dfu_match.specs.Searches.{open_to}
use Rattle.dfu_match.proofs.topmost.write_top_group.Given as goal

-- the vertices before `at` have served all that they can, and `missing` is left
abbrev pub invariant-loop-missing : goal.invariant-loop-missing
invariant-loop-missing g l = record {
  within : l.missing ≤ 1 * amount_of l.need;
  from : l.span.from ≤ l.at;
  written : Extends l.initial.out.items l.out.items
      (λ claims. InEach (g.F.FreeView.stands_for l.s.view.now)
      (λ present. Filled (CanServe l.s.graph.now.resources.vertices
      (open_to l.s.graph.now.resources.vertices present l.s.barred.now l.s.window) Everywhere l.need)
      (LowestPiece l.s.graph.now.resources.vertices
      (open_to l.s.graph.now.resources.vertices present l.s.barred.now l.s.window) l.need)
      (1 * amount_of l.need) l.at l.missing claims));
  known : Knows l.s.graph.now.resources.vertices (g.F.FreeView.stands_for l.s.view.now) l.s.barred.now l.s.needs.now
      l.s.window l.known;
  walked : InEach (g.F.FreeView.stands_for l.s.view.now) (λ present. (place times : ℕ) →
      IsPlaceOf (needs_all l.s.needs.now) place l.need →
      IsClearScope l.s.graph.now.resources.vertices present l.s.window
      (asked_totals l.s.wanted.now (g.F.FreeView.keeps l.s.view.now)) None l.need → AreLooks times l.need →
      Visited l.s.graph.now.resources.vertices present l.s.window
      (asked_totals l.s.wanted.now (g.F.FreeView.keeps l.s.view.now)) (needs_all l.s.needs.now) l.need place
      ((length (needs_all l.s.needs.now) + 2) * g.F.FreeView.cost l.s.view.now)
      (times * ((length (needs_all l.s.needs.now) + 2) * g.F.FreeView.cost l.s.view.now)) l.initial.steps l.steps
      l.span.from l.at l.span.to);
}

abbrev pub decreases-loop-missing : goal.decreases-loop-missing
decreases-loop-missing g l = l.span.to - l.at
