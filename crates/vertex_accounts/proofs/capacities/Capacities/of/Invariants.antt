use Rattle.std.proofs.Common.{◌≡◌, ◌+◌, ◌≤◌, ℕ, length, slice_index}
use Rattle.vertex_accounts.specs.Prefixes.{units_before}
use Rattle.vertex_accounts.proofs.capacities.Capacities.of.Given as goal

-- the sums before each vertex so far
abbrev pub invariant-loop-vertex : goal.invariant-loop-vertex
invariant-loop-vertex l = record {
  as_many : length l.sums.items ≡ l.vertex-index + 1;
  each : (i : ℕ) → i ≤ l.vertex-index → slice_index l.sums.items i ≡ units_before l.vertex-items l.kind i;
  last : l.sum ≡ units_before l.vertex-items l.kind l.vertex-index;
}
