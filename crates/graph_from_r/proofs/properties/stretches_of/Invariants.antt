use Rattle.std.proofs.Common.{◌≡◌, ◌++◌, drop}
use Rattle.graph_from_r.specs.Stretches.{stretches_of}
use Rattle.graph_from_r.proofs.properties.stretches_of.Given as goal

-- what was added, and what is left to add
abbrev pub invariant-each : goal.invariant-each
invariant-each l = l.stretches.items ++ stretches_of (drop l.range-index l.ranges) ≡ stretches_of l.ranges
