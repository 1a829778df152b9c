use Rattle.std.proofs.Common.{◌-◌, ◌≤◌, ◌<◌, ℕ}
use Rattle.flux_defs.specs.Graph.{HasKind}
use Rattle.resource_graph.proofs.graph.Graph.run_of_kind.Given as goal

-- all vertices so far are of the kind
abbrev pub invariant-loop-at : goal.invariant-loop-at
invariant-loop-at l = record {
  from : l.from ≤ l.at;
  run : (v : ℕ) → l.from ≤ v → v < l.at → (v < l.to) × HasKind l.self.resources.vertices l.kind v;
}

abbrev pub decreases-loop-at : goal.decreases-loop-at
decreases-loop-at l = l.end - l.at
