use Rattle.std.proofs.Common.{◌≡◌, ◌++◌, drop}
use Rattle.std.specs.List.{flat_map, list_all}
use Rattle.node_constraints.specs.Listed.{own_stretch, is_small}
use Rattle.node_constraints.proofs.listed.add_stretches.Given as goal

-- what was added, and what is left to add
abbrev pub invariant-each : goal.invariant-each
invariant-each l =
    (l.stretches.items ++ flat_map (own_stretch l.prefixes) (drop l.host-index l.hosts)
    ≡ l.initial.stretches.items ++ flat_map (own_stretch l.prefixes) l.hosts)
    × (list_all is_small l.hosts ≡ list_all is_small (drop l.host-index l.hosts))
