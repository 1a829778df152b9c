use Rattle.std.proofs.Common.{◌≡◌, ◌++◌, drop}
use Rattle.node_constraints.specs.Listed.{stretches_in, are_small}
use Rattle.node_constraints.proofs.listed.stretches_of.Given as goal

-- what was added, and what is left to add
abbrev pub invariant-lists : goal.invariant-lists
invariant-lists l =
    (l.stretches.items ++ stretches_in l.prefixes (drop l.hosts-index l.lists) ≡ stretches_in l.prefixes l.lists)
    × (are_small l.lists ≡ are_small (drop l.hosts-index l.lists))
