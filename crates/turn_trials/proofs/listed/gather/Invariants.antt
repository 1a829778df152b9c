use Rattle.std.proofs.Common.{◌≡◌, ◌+◌, All, length}
use Rattle.turn_table.specs.declared.view.TheConstants.{ALL_SHARES}
use Rattle.turn_table.specs.Seats.{share, Rests}
use Rattle.turn_table.specs.Turns.{Belongs}
use Rattle.turn_trials.proofs.listed.gather.Given as goal

abbrev pub invariant-loop-session : goal.invariant-loop-session
invariant-loop-session l =
    Belongs (λ _. 0) l.desk.turn l.first × Rests l.first × (share l.first + length l.sessions ≡ ALL_SHARES)
    × All (λ s. Belongs (λ _. 0) l.desk.turn s.seat × Rests s.seat × (share s.seat ≡ 1)) l.sessions

abbrev pub decreases-loop-session : goal.decreases-loop-session
decreases-loop-session l = length l.sessions
