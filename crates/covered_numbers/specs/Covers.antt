-- Which numbers stretches have.
use Rattle.std.specs.Prelude.{ℕ, Bool, nat_le, ◌&&◌, List, [], ◌∷◌, max}
use Rattle.std.specs.List.{list_any}
use Rattle.covered_numbers.specs.declared.stretches.Stretch.{Stretch}

-- the stretch has the number
abbrev pub has_number : ℕ → Stretch → Bool
has_number number s = nat_le s.first number && nat_le number s.last

-- some stretch has it
abbrev pub is_covered : List Stretch → ℕ → Bool
is_covered stretches number = list_any (has_number number) stretches

-- ---- for private clauses

-- each stretch up to the greatest of a number, the last ones of those before it and its own
abbrev pub raised : ℕ → List Stretch → List Stretch
raised least [] = []
raised least (s ∷ ss) = record { first = s.first; last = max s.last least } ∷ raised (max s.last least) ss
