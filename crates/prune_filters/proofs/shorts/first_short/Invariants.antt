use Rattle.std.proofs.Common.{◌≡◌, ◌+◌, ◌*◌, ◌<◌, ◌≤◌, ℕ, slice_index_or}
use Rattle.flux_defs.specs.Present.{Present}
use Rattle.prune_filters.specs.declared.shorts.Demand.{Demand}
use Rattle.prune_filters.specs.Shorts.{IsBelow}
use Rattle.prune_filters.proofs.shorts.first_short.Given as goal

-- the vertex is short of none of the demands so far
abbrev pub invariant-loop-demand : goal.invariant-loop-demand
invariant-loop-demand g l = record {
  none : (present : Present) → g.F.FreeView.stands_for l.view present → (k : ℕ) (d : Demand) → k < l.demand-index →
      slice_index_or l.demand-items k d ≡ d →
      IsBelow (g.F.FreeView.graph l.view) present l.window (g.F.FreeView.keeps l.view) l.vertex d.kind d.amount → ⊥;
  spent : l.steps ≤ l.initial.steps + l.demand-index * g.F.FreeView.cost l.view;
}
