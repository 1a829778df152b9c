-- What is gone from `rest` was taken, and a text that fits the room had no fault.
use Rattle.std.proofs.Common.{◌≡◌, ◌≤◌, ◌++◌, ◌-◌, ℕ, List, length, Some, IfSome}
use Rattle.std.specs.Io.KnownBytes.{Appends}
use Rattle.flux_io.proofs.whole.write_all.Given as goal

abbrev pub invariant-pieces : goal.invariant-pieces
invariant-pieces g l =
    (front : List ℕ) × (l.text ≡ front ++ l.rest)
    × Appends (g.O.Sink.held l.fn.out) (g.O.Sink.held l.out) front
    × IfSome (g.O.Sink.room l.fn.out) (λ room. g.O.Sink.room l.out ≡ Some (room - length front))
    × (g.O.Sink.faults l.fn.out ≤ g.O.Sink.faults l.out)
    × IfSome (g.O.Sink.room l.fn.out) (λ room. length l.text ≤ room → g.O.Sink.faults l.out ≡ g.O.Sink.faults l.fn.out)

abbrev pub decreases-pieces : goal.decreases-pieces
decreases-pieces g l = length l.rest
