-- What was consumed stands at the end of `into`, and the allowed bytes that are left grow fewer.
use Rattle.std.proofs.Common.{◌≡◌, ◌<◌, ◌≤◌, ◌++◌, ◌-◌, ℕ, List, vec_len}
use Rattle.std.specs.Io.KnownBytes.{Consumes}
use Rattle.flux_io.proofs.whole.take_all.Given as goal

abbrev pub invariant-pieces : goal.invariant-pieces
invariant-pieces g l =
    (bytes : List ℕ) × Consumes (g.S.Source.left l.fn.source) (g.S.Source.left l.source) bytes
    × (l.into.items ≡ l.fn.into.items ++ bytes) × (vec_len l.into ≤ l.largest) × (0 < vec_len l.buffer)
    × (g.S.Source.faults l.fn.source ≤ g.S.Source.faults l.source)

abbrev pub decreases-pieces : goal.decreases-pieces
decreases-pieces g l = l.largest - vec_len l.into
