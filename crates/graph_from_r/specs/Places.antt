-- The ranks of a resource set's elements.
use Rattle.std.specs.Prelude.{ℕ, suc, List, [], ◌++◌, map, ◌∷◌}
use Rattle.idset_text.specs.declared.idsets.Range.{Range}
use Rattle.idset_text.specs.Idsets.{ids_of}
use Rattle.resource_set_r.specs.declared.sets_read.RRow.{RRow}
use Rattle.graph_from_r.specs.declared.places.Place.{Place}

-- ranks with the index of their element
abbrev pub placed : ℕ → List ℕ → List Place
placed at ranks = map (λ rank. record { rank = rank; row = at }) ranks

-- the ids of the ranges, each with the index of its element
abbrev pub places_of : ℕ → List Range → List Place
places_of at ranges = placed at (ids_of ranges)

-- the ranks of the elements from this index on
abbrev pub places_from : ℕ → List RRow → List Place
places_from at [] = []
places_from at (row ∷ rows) = places_of at row.ranks ++ places_from (suc at) rows
