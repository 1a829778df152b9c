use Rattle.std.proofs.Common.{◌≡◌, drop}
use Rattle.json_whole.specs.Values.{items_view}
use Rattle.jobspec_v1.specs.Tasks.{are_texts}
use Rattle.jobspec_v1.proofs.tasks.are_texts.Given as goal

abbrev pub invariant-loop-value : goal.invariant-loop-value
invariant-loop-value l = are_texts (items_view (drop l.value-index l.values)) ≡ are_texts (items_view l.values)
