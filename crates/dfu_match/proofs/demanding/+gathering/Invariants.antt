use Rattle.std.proofs.Common.{ℕ, ◌+◌, ◌≤◌, ◌⊎◌, length, Contains, drop}
use Rattle.prune_filters.specs.Demands.{needs_demand}
use Rattle.dfu_match.specs.Tables.{needs_all}
use Rattle.dfu_match.proofs.demanding.+gathering.Given as goal

-- what the needs that are left demand is not yet there
abbrev pub invariant-gather_all-loop-need : goal.invariant-gather_all-loop-need
invariant-gather_all-loop-need l = record {
  all : (kind : ℕ) → Contains l.initial.found.items kind
      ⊎ (1 ≤ needs_demand l.kinds.graph.now.resources.vertices kind l.need-items) →
      Contains l.found.items kind ⊎ (1 ≤ needs_demand l.kinds.graph.now.resources.vertices kind
      (drop l.need-index l.need-items));
  few : length l.found.items + length (needs_all (drop l.need-index l.need-items))
      ≤ length l.initial.found.items + length (needs_all l.need-items);
}
