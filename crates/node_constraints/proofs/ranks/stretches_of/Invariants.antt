use Rattle.std.proofs.Common.{◌≡◌, ◌++◌, drop, map}
use Rattle.std.specs.List.{flat_map}
use Rattle.node_constraints.specs.Ranked.{stretch_of}
use Rattle.node_constraints.proofs.ranks.stretches_of.Given as goal

-- what was added, and what is left to add
abbrev pub invariant-sets : goal.invariant-sets
invariant-sets l = l.stretches.items ++ flat_map (map stretch_of) (drop l.ranges-index l.sets)
    ≡ flat_map (map stretch_of) l.sets
