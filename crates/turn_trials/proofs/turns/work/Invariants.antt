use Rattle.std.proofs.Common.{◌≡◌}
use Rattle.turn_trials.specs.declared.turns.Log.{Log}
use Rattle.turn_table.specs.Seats.{share, Rests}
use Rattle.turn_table.specs.Turns.{Belongs}
use Rattle.turn_trials.proofs.turns.work.Given as goal

abbrev pub invariant-loop : goal.invariant-loop
invariant-loop g l =
    Belongs (λ (log : Log). log.name) l.turn l.client.seat × Rests l.client.seat × (share l.client.seat ≡ 1)
