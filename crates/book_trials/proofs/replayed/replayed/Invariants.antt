use Rattle.std.proofs.Common.{◌≡◌}
use Rattle.book_trials.proofs.replayed.replayed.Given as goal

abbrev pub invariant-loop-at : goal.invariant-loop-at
invariant-loop-at l = l.again.setting.graph ≡ l.core.setting.graph
