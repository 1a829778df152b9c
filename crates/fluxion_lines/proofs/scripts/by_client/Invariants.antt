use Rattle.std.proofs.Common.{◌≡◌, ◌++◌, map}
use Rattle.std.specs.List.{range_with_len}
use Rattle.fluxion_lines.specs.Scripts.{lines_by}
use Rattle.fluxion_lines.proofs.scripts.by_client.Given as goal

abbrev pub invariant-loop-told : goal.invariant-loop-told
invariant-loop-told l =
    (goal.iterator-loop-told).can_next l.told-iterator × (goal.iterator-loop-told).is_finite l.told-iterator
    × (l.fn.lines ≡ l.yielded ++ l.told-iterator.rest.items)
    × (l.lists ≡ map (λ client. lines_by client l.yielded) (range_with_len 0 l.count))
