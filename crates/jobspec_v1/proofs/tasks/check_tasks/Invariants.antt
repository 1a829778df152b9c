use Rattle.std.proofs.Common.{◌≡◌, drop}
use Rattle.json_whole.specs.Values.{items_view}
use Rattle.jobspec_v1.specs.Tasks.{tasks_fault}
use Rattle.jobspec_v1.proofs.tasks.check_tasks.Given as goal

abbrev pub invariant-values : goal.invariant-values
invariant-values l =
    tasks_fault l.labels l.at (items_view (drop l.at l.values)) ≡ tasks_fault l.labels 0 (items_view l.values)
