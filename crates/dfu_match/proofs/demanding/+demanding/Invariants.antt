use Rattle.std.proofs.Common.{◌≡◌, ◌+◌, ◌<◌, ◌^◌, drop}
use Rattle.prune_filters.specs.Demands.{needs_demand, capped}
use Rattle.dfu_match.proofs.demanding.+demanding.Given as goal

-- what the needs that are left demand is missing
abbrev pub invariant-demand_of_all-loop-need : goal.invariant-demand_of_all-loop-need
invariant-demand_of_all-loop-need l = record {
  small : l.total < 2 ^ 64;
  left : capped (l.total + needs_demand l.kinds.graph.now.resources.vertices l.kind (drop l.need-index l.need-items)) ≡
      capped (needs_demand l.kinds.graph.now.resources.vertices l.kind l.need-items);
}
