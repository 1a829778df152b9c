-- Ranges as stretches of numbers.
use Rattle.std.specs.Prelude.{List, map}
use Rattle.covered_numbers.specs.declared.stretches.Stretch.{Stretch}
use Rattle.idset_text.specs.declared.idsets.Range.{Range}

abbrev pub stretches_of : List Range → List Stretch
stretches_of ranges = map (λ range. record { first = range.lo; last = range.hi }) ranges
