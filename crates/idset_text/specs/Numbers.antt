-- Numbers as decimal digits.
use Rattle.std.specs.Prelude.{ℕ, ◌==◌, nat_lt, Bool, false, ◌&&◌, if◌then◌else◌, List, [], ◌∷◌, length, Option, Some}
use Rattle.std.specs.Prelude.{None}
use Rattle.std.specs.List.{list_all}
use Rattle.std.specs.Char.{is_ascii_digit}
use Rattle.std.specs.Str.Parse.{digits_value}

-- the number that the digits write
abbrev pub value_of : List ℕ → ℕ
value_of digits = digits_value 10 digits

abbrev pub are_digits : List ℕ → Bool
are_digits bytes = list_all is_ascii_digit bytes

-- a zero before further bytes; a lone one leads nothing
abbrev pub has_leading_zero : List ℕ → Bool
has_leading_zero [] = false
has_leading_zero (byte ∷ []) = false
has_leading_zero (byte ∷ next ∷ bytes) = byte == 48

-- the number below 2 ^ 32 that one or more digits write
abbrev pub number_of : List ℕ → Option ℕ
number_of bytes = if (nat_lt 0 (length bytes) && are_digits bytes && nat_lt (value_of bytes) 4294967296)
    then Some (value_of bytes) else None
