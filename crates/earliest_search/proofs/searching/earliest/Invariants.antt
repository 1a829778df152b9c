use Rattle.std.proofs.Common.{◌-◌, ◌+◌, ◌*◌, ◌≤◌, ℕ, List}
use Rattle.std.specs.Prelude.{Contains}
use Rattle.flux_defs.specs.Asks.{CountsWithin, window_of}
use Rattle.flux_defs.specs.Present.{InEach}
use Rattle.dfu_match.specs.Pairs.{IsEnoughFor}
use Rattle.dfu_match.specs.Rows.{Knows}
use Rattle.earliest_search.specs.Tried.{IsNowOrPoint}
use Rattle.earliest_search.proofs.StartLaws.{NoStartBefore}
use Rattle.earliest_search.proofs.TriedLaws.{HasEachBefore, weight_before}
use Rattle.earliest_search.proofs.searching.earliest.Given as goal

-- no start stands before the one that is tried
abbrev pub invariant-starts : goal.invariant-starts
invariant-starts g l = record {
  later : l.now ≤ l.start;
  before : InEach (g.F.FreeView.stands_for l.view) (λ present. NoStartBefore l.graph.resources.vertices present
      l.horizon l.ask l.now l.start);
  point : InEach (g.F.FreeView.stands_for l.view) (λ present. IsNowOrPoint present l.now l.start);
  known : Knows l.matcher.graph.now.resources.vertices (g.F.FreeView.stands_for l.view) l.matcher.ask.now.barred
      l.matcher.ask.now.needs (window_of l.horizon l.ask l.start) l.known;
  spent : InEach (g.F.FreeView.stands_for l.view) (λ present. (tried : List ℕ) → (looks : ℕ → ℕ) →
      HasEachBefore present l.horizon l.ask l.now l.start tried →
      ((t : ℕ) → Contains tried t → CountsWithin l.horizon l.ask t →
      IsEnoughFor l.graph.resources.vertices present (window_of l.horizon l.ask t) (g.F.FreeView.keeps l.view)
      l.ask.needs
      (looks t)) →
      l.steps ≤ l.initial.steps + weight_before (λ t. (looks t + 1) * g.F.FreeView.cost l.view) l.start tried);
}

abbrev pub decreases-starts : goal.decreases-starts
decreases-starts g l = l.horizon - l.start
