-- A call that would have to wait consumed nothing.
use Rattle.std.specs.Io.KnownBytes.{Keeps}
use Rattle.flux_io.proofs.waiting.WaitingRead.read.Given as goal

abbrev pub invariant-tries : goal.invariant-tries
invariant-tries g l = Keeps (g.S.Read.remaining l.fn.self) (g.S.Read.remaining l.self)
