use Rattle.std.proofs.Common.{◌≡◌, ◌++◌}
use Rattle.sched_core.specs.Played.{IsPlayed}
use Rattle.sched_core.proofs.playing.play_all.Given as goal

abbrev pub invariant-loop-told : goal.invariant-loop-told
invariant-loop-told l =
    (goal.iterator-loop-told).can_next l.told-iterator × (goal.iterator-loop-told).is_finite l.told-iterator
    × (l.fn.lines.items ≡ l.yielded ++ l.told-iterator.rest.items) × IsPlayed l.fn.core l.core l.yielded
