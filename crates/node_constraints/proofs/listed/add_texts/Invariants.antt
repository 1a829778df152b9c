use Rattle.std.proofs.Common.{◌≡◌, drop}
use Rattle.std.specs.List.{flat_map}
use Rattle.text_table.specs.Tables.{with_texts}
use Rattle.node_constraints.specs.Listed.{own_name, own_prefix}
use Rattle.node_constraints.proofs.listed.add_texts.Given as goal

-- what was added, and what is left to add
abbrev pub invariant-each : goal.invariant-each
invariant-each l =
    (with_texts l.names (flat_map own_name (drop l.host-index l.hosts))
    ≡ with_texts l.initial.names (flat_map own_name l.hosts))
    × (with_texts l.prefixes (flat_map own_prefix (drop l.host-index l.hosts))
    ≡ with_texts l.initial.prefixes (flat_map own_prefix l.hosts))
