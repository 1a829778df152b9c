use Rattle.std.proofs.Common.{◌+◌}
use Rattle.std.specs.Option.{option_map_or}
use Rattle.resource_graph.proofs.PathLaws.{IsAhead}
use Rattle.resource_graph.proofs.paths.place_of.Given as goal

abbrev pub invariant-loop-at : goal.invariant-loop-at
invariant-loop-at l = IsAhead l.vertices l.names l.path l.at

abbrev pub decreases-loop-at : goal.decreases-loop-at
decreases-loop-at l = option_map_or (λ v. v + 1) l.at 0
