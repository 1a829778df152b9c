use Rattle.std.proofs.Common.{◌≡◌, ◌++◌, drop, map}
use Rattle.node_constraints.specs.Ranked.{stretch_of}
use Rattle.node_constraints.proofs.ranks.add_ranges.Given as goal

-- what was added, and what is left to add
abbrev pub invariant-each : goal.invariant-each
invariant-each l = l.stretches.items ++ map stretch_of (drop l.range-index l.ranges)
    ≡ l.initial.stretches.items ++ map stretch_of l.ranges
