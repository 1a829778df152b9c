use Rattle.std.proofs.Common.{◌≡◌, ◌++◌, map}
use Rattle.flux_defs.specs.Scripts.{client_line}
use Rattle.sched_core.specs.Played.{IsPlayed}
use Rattle.sched_core.proofs.playing.play_all_of.Given as goal

abbrev pub invariant-loop-told : goal.invariant-loop-told
invariant-loop-told l =
    (goal.iterator-loop-told).can_next l.told-iterator × (goal.iterator-loop-told).is_finite l.told-iterator
    × (l.fn.lines.items ≡ l.yielded ++ l.told-iterator.rest.items)
    × IsPlayed l.fn.core l.core (map (client_line l.client) l.yielded)
