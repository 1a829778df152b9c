use Rattle.std.proofs.Common.{length}
use Rattle.one_history.proofs.Sessions.{Gathering}
use Rattle.one_history.proofs.playing.gather.Given as goal

abbrev pub invariant-loop-session : goal.invariant-loop-session
invariant-loop-session l = Gathering l.book l.initial.seat l.initial.sessions l.seat l.sessions

abbrev pub decreases-loop-session : goal.decreases-loop-session
decreases-loop-session l = length l.sessions
