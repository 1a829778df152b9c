-- Numbers in decimal.
use Rattle.std.specs.Prelude.{ℕ, ◌^◌, ◌&&◌, nat_lt, List, Bool, Option, Some, None, if◌then◌else◌, bytes_eq, decimal}
use Rattle.std.specs.Str.Parse.{digits_value}

-- the text is what is written for the number that its digits have, and 64 bits hold it
abbrev pub is_number : List ℕ → Bool
is_number word = bytes_eq (decimal (digits_value 10 word)) word && nat_lt (digits_value 10 word) (2 ^ 64)

-- the number that a word is
abbrev pub number_in : List ℕ → Option ℕ
number_in word = if is_number word then Some (digits_value 10 word) else None
