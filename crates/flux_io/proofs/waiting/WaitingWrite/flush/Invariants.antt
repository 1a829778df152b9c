-- A call that would have to wait took nothing.
use Rattle.std.specs.Io.KnownBytes.{Keeps}
use Rattle.flux_io.proofs.waiting.WaitingWrite.flush.Given as goal

abbrev pub invariant-tries : goal.invariant-tries
invariant-tries g l = Keeps (g.S.Write.contents l.fn.self) (g.S.Write.contents l.self)
