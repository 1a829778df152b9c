use Rattle.std.proofs.Common.{◌≡◌, ◌++◌, drop}
use Rattle.graph_from_r.specs.Places.{places_of}
use Rattle.graph_from_r.proofs.places.add_row.Given as goal

-- what was added, and what is left to add
abbrev pub invariant-each : goal.invariant-each
invariant-each l = l.places.items ++ places_of l.at (drop l.range-index l.row.ranks)
    ≡ l.fn.places.items ++ places_of l.at l.row.ranks
