use Rattle.std.proofs.Common.{◌≡◌, ◌++◌, drop}
use Rattle.covered_numbers.specs.Covers.{raised}
use Rattle.covered_numbers.proofs.stretches.raised.Given as goal

-- what was written, and what is left to write
abbrev pub invariant-stretches : goal.invariant-stretches
invariant-stretches l = l.longer.items ++ raised l.last (drop l.stretch-index l.stretches) ≡ raised 0 l.fn.stretches
