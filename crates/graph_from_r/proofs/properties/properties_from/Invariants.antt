use Rattle.std.proofs.Common.{◌≡◌, ◌++◌}
use Rattle.std.specs.Prelude.{option_map}
use Rattle.json_whole.specs.Values.{entries_view}
use Rattle.graph_from_r.specs.Properties.{properties_from}
use Rattle.graph_from_r.proofs.properties.properties_from.Given as goal

-- what was added, and what is left to add
abbrev pub invariant-members : goal.invariant-members
invariant-members l = option_map (λ others. l.properties.items ++ others)
    (properties_from (entries_view l.name-iterator))
    ≡ properties_from (entries_view l.initial.name-iterator)
