use Rattle.std.proofs.Common.{◌≡◌, drop}
use Rattle.json_whole.specs.Values.{items_view}
use Rattle.node_constraints.specs.Truth.{each_text}
use Rattle.node_constraints.specs.Faults.{is_text}
use Rattle.node_constraints.proofs.texts.are_texts.Given as goal

abbrev pub invariant-values : goal.invariant-values
invariant-values l =
    each_text is_text (items_view (drop l.value-index l.values)) ≡ each_text is_text (items_view l.values)
