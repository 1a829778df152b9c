use Rattle.std.proofs.Common.{◌≡◌, ◌++◌, drop}
use Rattle.graph_from_r.specs.Places.{places_from}
use Rattle.graph_from_r.proofs.places.unsorted.Given as goal

-- what was added, and what is left to add
abbrev pub invariant-rows : goal.invariant-rows
invariant-rows l = l.places.items ++ places_from l.at (drop l.at l.rows) ≡ places_from 0 l.rows
