use Rattle.std.proofs.Common.{◌≡◌, ◌++◌}
use Rattle.one_history.proofs.Sessions.{Dealing}
use Rattle.one_history.proofs.playing.deal.Given as goal

abbrev pub invariant-loop-own : goal.invariant-loop-own
invariant-loop-own l =
    (goal.iterator-loop-own).can_next l.own-iterator × (goal.iterator-loop-own).is_finite l.own-iterator
    × (l.fn.lines ≡ l.yielded ++ l.own-iterator.rest.items)
    × Dealing l.book l.initial.seat l.seat l.yielded l.sessions.items
