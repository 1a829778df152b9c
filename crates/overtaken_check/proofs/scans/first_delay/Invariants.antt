use Rattle.std.proofs.Common.{◌≡◌, ◌+◌, ◌-◌, ◌*◌, ◌≤◌, ◌<◌, ℕ, length}
use Rattle.flux_defs.specs.Digits.{dig}
use Rattle.flux_defs.specs.Histories.{state_at}
use Rattle.overtaken_check.specs.Scans.{DelaysPast}
use Rattle.overtaken_check.proofs.scans.first_delay.Given as goal

-- the present moment is the one before the next entry, and no entry so far came too late
abbrev pub invariant-loop-at : goal.invariant-loop-at
invariant-loop-at g l = record {
  moment : l.present ≡ (state_at l.journal l.at).moment;
  none : (i : ℕ) → l.place ≤ i → i < l.at → DelaysPast l.last l.journal i → ⊥;
  low : l.place ≤ l.at;
  within : l.at - l.place ≤ length l.journal - l.place;
  work : l.steps ≤ l.initial.steps + (l.at - l.place) * (2 * dig (length l.journal + 1));
}
