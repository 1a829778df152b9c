use Rattle.std.proofs.Common.{◌≡◌, ◌+◌, length}
use Rattle.idset_text.specs.Items.{items_of, with_first}
use Rattle.idset_text.specs.Idsets.{ranges_of}
use Rattle.idset_text.proofs.idsets.read_ranges.Given as goal

-- the ranges so far and those of the rest are those of the whole text
abbrev pub invariant-items : goal.invariant-items
invariant-items l = record {
  read : with_first l.ranges.items (ranges_of l.least (items_of l.at l.rest)) ≡ ranges_of 0 (items_of l.start l.text);
  place : l.at + length l.rest ≡ l.start + length l.text;
}

abbrev pub decreases-items : goal.decreases-items
decreases-items l = length l.rest
