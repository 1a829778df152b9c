use Rattle.std.proofs.Common.{◌≡◌, [], drop}
use Rattle.text_table.specs.Tables.{with_texts}
use Rattle.node_constraints.specs.Listed.{names_in, prefixes_in}
use Rattle.node_constraints.proofs.listed.Listed.of.Given as goal

-- what was added, and what is left to add
abbrev pub invariant-lists : goal.invariant-lists
invariant-lists l =
    (with_texts l.names (names_in (drop l.hosts-index l.hosts-items)) ≡ with_texts [] (names_in l.hosts-items))
    × (with_texts l.prefixes (prefixes_in (drop l.hosts-index l.hosts-items))
    ≡ with_texts [] (prefixes_in l.hosts-items))
