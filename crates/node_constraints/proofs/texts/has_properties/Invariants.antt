use Rattle.std.proofs.Common.{◌≡◌, drop}
use Rattle.json_whole.specs.Values.{items_view}
use Rattle.node_constraints.specs.Truth.{each_text, has_property}
use Rattle.node_constraints.proofs.texts.has_properties.Given as goal

abbrev pub invariant-values : goal.invariant-values
invariant-values l = each_text (has_property l.properties) (items_view (drop l.value-index l.values))
    ≡ each_text (has_property l.properties) (items_view l.values)
