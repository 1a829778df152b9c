use Rattle.std.proofs.Common.{◌≡◌, ◌++◌, drop}
use Rattle.graph_from_r.specs.Properties.{names_at}
use Rattle.graph_from_r.proofs.properties.names_at.Given as goal

-- what was added, and what is left to add
abbrev pub invariant-properties : goal.invariant-properties
invariant-properties l = l.names.items ++ names_at (drop l.property-index l.properties) l.rank
    ≡ names_at l.properties l.rank
