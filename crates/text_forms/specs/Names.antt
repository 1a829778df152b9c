-- Names.
use Rattle.std.specs.Prelude.{ℕ, ◌==◌, List, length, Bool, ◌&&◌, ◌||◌, nat_lt, nat_le}
use Rattle.std.specs.List.{list_all}
use Rattle.std.specs.Char.{is_ascii_alphanumeric}

-- a letter, a digit, '_' (95), '-' (45) or '.' (46)
abbrev pub is_name_byte : ℕ → Bool
is_name_byte byte = is_ascii_alphanumeric byte || (byte == 95) || (byte == 45) || (byte == 46)

-- a name: one or more of these, and at most so many
abbrev pub is_name : ℕ → List ℕ → Bool
is_name most text = nat_lt 0 (length text) && nat_le (length text) most && list_all is_name_byte text
