use Rattle.std.proofs.Common.{◌≡◌, ℕ, ◌-◌, ◌<◌, ◌≤◌, ◌++◌, length, Some, vec_len}
use Rattle.flux_defs.specs.Graph.{chain}
use Rattle.resource_graph.specs.Chains.{AllBelow}
use Rattle.resource_graph.proofs.chains.chain_into.Given as goal

abbrev pub invariant-loop-at : goal.invariant-loop-at
invariant-loop-at l = record {
  climbed : (l.chain.items ++ chain l.vertices (l.most - vec_len l.chain) l.at)
      ≡ chain l.vertices l.most (Some l.vertex);
  within : vec_len l.chain ≤ l.most;
  known : (v : ℕ) → l.at ≡ Some v → v < length l.vertices;
  below : AllBelow (length l.vertices) l.chain.items;
}

abbrev pub decreases-loop-at : goal.decreases-loop-at
decreases-loop-at l = l.most - vec_len l.chain
