-- An interrupted write took nothing and counts no fault.
use Rattle.std.proofs.Common.{◌≡◌}
use Rattle.std.specs.Io.KnownBytes.{Keeps}
use Rattle.flux_io.proofs.std_sink.StdSinkSink.push.Given as goal

abbrev pub invariant-tries : goal.invariant-tries
invariant-tries g l = Keeps (g.W.Write.contents l.fn.self.inner) (g.W.Write.contents l.self-inside.inner)
    × (l.self-inside.faults ≡ l.fn.self.faults)
