use Rattle.std.proofs.Common.{◌≡◌, ℕ, ◌<◌, map, take}
use Rattle.graph_from_r.specs.Names.{HasEarlierName}
use Rattle.graph_from_r.proofs.names.repeated_name.Given as goal

-- the names so far, none of which is repeated
abbrev pub invariant-nodes : goal.invariant-nodes
invariant-nodes l = record {
  seen : l.seen ≡ map (λ n. n.name) (take l.node-index l.nodes);
  apart : (k : ℕ) → k < l.node-index → HasEarlierName l.nodes k → ⊥;
}
