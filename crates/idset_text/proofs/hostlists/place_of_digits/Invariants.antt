use Rattle.std.proofs.Common.{◌≡◌, ◌+◌, ◌≤◌, length, take}
use Rattle.std.specs.List.{suffix_len}
use Rattle.std.specs.Char.{is_ascii_digit}
use Rattle.idset_text.proofs.hostlists.place_of_digits.Given as goal

-- what was passed is digits
abbrev pub invariant-digits : goal.invariant-digits
invariant-digits l = record {
  within : l.place ≤ length l.name;
  passed : l.place + suffix_len is_ascii_digit l.name ≡ length l.name + suffix_len is_ascii_digit (take l.place l.name);
}

abbrev pub decreases-digits : goal.decreases-digits
decreases-digits l = l.place
