use Rattle.std.proofs.Common.{◌≡◌, ◌+◌, All, length}
use Rattle.turn_table.specs.declared.view.TheConstants.{ALL_SHARES}
use Rattle.turn_trials.specs.declared.turns.Log.{Log}
use Rattle.turn_trials.specs.declared.turns.Client.{Client}
use Rattle.turn_table.specs.Seats.{share, Rests}
use Rattle.turn_table.specs.Turns.{Belongs}
use Rattle.turn_trials.proofs.turns.gather.Given as goal

abbrev pub invariant-loop-client : goal.invariant-loop-client
invariant-loop-client l =
    (Belongs (λ (log : Log). log.name) l.turn l.first × Rests l.first)
    × (share l.first + length l.clients.items ≡ ALL_SHARES)
    × All (λ (c : Client). Belongs (λ (log : Log). log.name) l.turn c.seat × Rests c.seat × (share c.seat ≡ 1))
    l.clients.items

abbrev pub decreases-loop-client : goal.decreases-loop-client
decreases-loop-client l = goal.left-loop-client l
