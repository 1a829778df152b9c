use Rattle.std.proofs.Common.{◌≡◌, ◌++◌, drop}
use Rattle.graph_from_r.specs.Nodes.{nodes_at}
use Rattle.graph_from_r.proofs.nodes.nodes_at.Given as goal

-- what was added, and what is left to add
abbrev pub invariant-places : goal.invariant-places
invariant-places l = l.nodes.items ++ nodes_at l.rows l.properties (drop l.at l.places) (drop l.at l.names)
    ≡ nodes_at l.rows l.properties l.places l.names
