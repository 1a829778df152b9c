use Rattle.std.proofs.Common.{◌≡◌, ◌+◌, All, false, length}
use Rattle.turn_table.specs.declared.view.TheConstants.{ALL_SHARES}
use Rattle.turn_table.specs.Seats.{share, Rests}
use Rattle.turn_table.specs.Turns.{Belongs}
use Rattle.turn_trials.proofs.listed.deal.Given as goal

abbrev pub invariant-loop-client : goal.invariant-loop-client
invariant-loop-client l =
    Belongs (λ _. 0) l.desk.turn l.first × Rests l.first × (share l.first + length l.sessions.items ≡ ALL_SHARES)
    × (length l.sessions.items ≡ l.client)
    × All (λ s. Belongs (λ _. 0) l.desk.turn s.seat × Rests s.seat × (share s.seat ≡ 1) × (s.done ≡ 0)
    × (s.stopped ≡ false)) l.sessions.items
