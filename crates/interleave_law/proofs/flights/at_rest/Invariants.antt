use Rattle.std.proofs.Common.{◌≡◌, All, length}
use Rattle.interleave_law.specs.declared.flights.Progress.{Progress}
use Rattle.interleave_law.specs.Machines.{idle_progress}
use Rattle.interleave_law.proofs.flights.at_rest.Given as goal

abbrev pub invariant-loop-count : goal.invariant-loop-count
invariant-loop-count l = (length l.list.items ≡ l._count) × All (λ (p : Progress). p ≡ idle_progress 0) l.list.items
