use Rattle.std.proofs.Common.{◌+◌, ◌*◌, ◌≤◌, All, take}
use Rattle.flux_defs.specs.Closed.{no_bars}
use Rattle.flux_defs.specs.Available.{IsAvailable}
use Rattle.flux_defs.specs.Present.{InEach}
use Rattle.candidate_check.proofs.checks.still_free.Given as goal

-- each claim so far is available
abbrev pub invariant-loop-index : goal.invariant-loop-index
invariant-loop-index g l = record {
  free : InEach (g.F.FreeView.stands_for l.view)
      (λ present. All (IsAvailable (no_bars (g.F.FreeView.graph l.view) present) l.window)
      (take l.index l.claim-items));
  work : l.steps ≤ l.initial.steps + 2 * g.F.FreeView.cost l.view * l.index;
}
