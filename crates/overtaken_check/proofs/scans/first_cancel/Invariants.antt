use Rattle.std.proofs.Common.{◌+◌, ◌-◌, ◌*◌, ◌≤◌, ◌<◌, ℕ, length}
use Rattle.flux_defs.specs.Digits.{dig}
use Rattle.flux_defs.specs.Overtaken.{Frees}
use Rattle.overtaken_check.proofs.scans.first_cancel.Given as goal

-- no entry so far is an accepted cancel
abbrev pub invariant-loop-at : goal.invariant-loop-at
invariant-loop-at g l = record {
  none : (i : ℕ) → l.place ≤ i → i < l.at → Frees l.journal i → ⊥;
  low : l.place ≤ l.at;
  within : l.at - l.place ≤ length l.journal - l.place;
  work : l.steps ≤ l.initial.steps + (l.at - l.place) * (2 * dig (length l.journal + 1));
}
