use Rattle.std.proofs.Common.{◌≡◌, ◌<◌, true, take}
use Rattle.idset_text.specs.Numbers.{value_of, are_digits}
use Rattle.idset_text.proofs.numbers.number.Given as goal

-- the value of the digits passed
abbrev pub invariant-digits : goal.invariant-digits
invariant-digits l = record {
  digits : are_digits (take l.byte-index l.bytes) ≡ true;
  value : l.value ≡ value_of (take l.byte-index l.bytes);
  small : l.value < 4294967296;
}
