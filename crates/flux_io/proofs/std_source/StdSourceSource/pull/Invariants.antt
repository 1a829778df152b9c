-- An interrupted read consumed nothing and counts no fault.
use Rattle.std.proofs.Common.{◌≡◌}
use Rattle.std.specs.Io.KnownBytes.{Keeps}
use Rattle.flux_io.proofs.std_source.StdSourceSource.pull.Given as goal

abbrev pub invariant-tries : goal.invariant-tries
invariant-tries g l = Keeps (g.R.Read.remaining l.fn.self.inner) (g.R.Read.remaining l.self-inside.inner)
    × (l.self-inside.faults ≡ l.fn.self.faults)
