use Rattle.std.proofs.Common.{◌≡◌}
use Rattle.std.specs.Prelude.{is_some}
use Rattle.std.specs.List.{filter, range_with_len}
use Rattle.node_constraints.specs.Truth.{facts_of}
use Rattle.node_constraints.proofs.nodes.nodes_of.Given as goal

abbrev pub invariant-vertices : goal.invariant-vertices
invariant-vertices l = l.nodes.items ≡ filter (λ v. is_some (facts_of l.graph v).rank) (range_with_len 0 l.vertex)
