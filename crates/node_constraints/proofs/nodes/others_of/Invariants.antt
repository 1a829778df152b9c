use Rattle.std.proofs.Common.{◌≡◌, ℕ, Bool, not, ◌++◌, drop}
use Rattle.std.specs.List.{filter}
use Rattle.node_constraints.proofs.nodes.others_of.Given as goal

abbrev pub invariant-nodes : goal.invariant-nodes
invariant-nodes l = (holds : ℕ → Bool) → l.some ≡ filter holds l.nodes →
    (drop l.next l.some ≡ filter holds (drop l.node-index l.nodes)) × (l.others.items
    ++ filter (λ v. not (holds v)) (drop l.node-index l.nodes) ≡ filter (λ v. not (holds v)) l.nodes)
