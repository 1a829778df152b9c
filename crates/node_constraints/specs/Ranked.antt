-- Idsets as stretches of numbers.
use Rattle.std.specs.Prelude.{ℕ, ◌==◌, List, Bool}
use Rattle.std.specs.List.{list_any}
use Rattle.covered_numbers.specs.declared.stretches.Stretch.{Stretch}
use Rattle.idset_text.specs.declared.idsets.Range.{Range}
use Rattle.idset_text.specs.Idsets.{ids_of}

-- the numbers of a range
abbrev pub stretch_of : Range → Stretch
stretch_of range = record { first = range.lo; last = range.hi }

-- the rank is one of the ids of some set
abbrev pub is_in_some : List (List Range) → ℕ → Bool
is_in_some sets rank = list_any (λ ranges. list_any (λ id. id == rank) (ids_of ranges)) sets
