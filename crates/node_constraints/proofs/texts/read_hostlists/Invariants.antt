use Rattle.std.proofs.Common.{◌≡◌, ◌++◌, drop}
use Rattle.std.specs.Prelude.{option_map}
use Rattle.json_whole.specs.Values.{items_view}
use Rattle.idset_text.specs.Hostlists.{hostlist_of}
use Rattle.node_constraints.specs.Reading.{read_all}
use Rattle.node_constraints.proofs.texts.read_hostlists.Given as goal

abbrev pub invariant-values : goal.invariant-values
invariant-values l = option_map (λ xs. l.lists.items ++ xs)
    (read_all hostlist_of (items_view (drop l.value-index l.values))) ≡ read_all hostlist_of (items_view l.values)
