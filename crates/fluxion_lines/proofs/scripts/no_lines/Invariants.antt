use Rattle.std.proofs.Common.{◌≡◌, ◌-◌, ◌++◌, [], map}
use Rattle.std.specs.List.{range_with_len}
use Rattle.fluxion_lines.specs.Scripts.{lines_by}
use Rattle.fluxion_lines.proofs.scripts.no_lines.Given as goal

abbrev pub invariant-loop-client : goal.invariant-loop-client
invariant-loop-client l = l.lists.items ++ map (λ client. lines_by client [])
    (range_with_len l.client (l.count - l.client)) ≡ map (λ client. lines_by client []) (range_with_len 0 l.count)
