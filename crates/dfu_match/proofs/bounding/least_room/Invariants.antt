use Rattle.std.proofs.Common.{◌+◌, ◌*◌, ◌≤◌}
use Rattle.dfu_match.proofs.bounding.least_room.Given as goal

abbrev pub invariant-loop-demand : goal.invariant-loop-demand
invariant-loop-demand g l = record {
  spent : l.steps ≤ l.initial.steps + l.demand-index * g.F.FreeView.cost l.s.view.now;
}
