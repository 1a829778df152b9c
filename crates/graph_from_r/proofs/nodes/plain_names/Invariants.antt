use Rattle.std.proofs.Common.{◌≡◌, ◌++◌, drop, map}
use Rattle.graph_from_r.specs.Nodes.{plain_name}
use Rattle.graph_from_r.proofs.nodes.plain_names.Given as goal

-- what was added, and what is left to add
abbrev pub invariant-places : goal.invariant-places
invariant-places l = l.names.items ++ map (λ p. plain_name p.rank) (drop l.place-index l.places)
    ≡ map (λ p. plain_name p.rank) l.places
