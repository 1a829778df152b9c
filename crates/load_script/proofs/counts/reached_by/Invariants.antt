use Rattle.std.proofs.Common.{◌≡◌, drop}
use Rattle.flux_defs.specs.Scheduler.{State}
use Rattle.flux_defs.specs.Histories.{state_after}
use Rattle.load_script.specs.Counts.{end_of}
use Rattle.load_script.specs.Tallied.{AreOf}
use Rattle.load_script.proofs.counts.reached_by.Given as goal

-- the entries that are left lead from here to the end
abbrev pub invariant-loop-at : goal.invariant-loop-at
invariant-loop-at g l = (s : State) × (state_after s (drop l.at l.history) ≡ end_of l.history) × AreOf s l.reached
