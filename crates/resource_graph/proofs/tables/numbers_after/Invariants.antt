use Rattle.resource_graph.specs.Holds.{CountsUp}
use Rattle.resource_graph.proofs.tables.numbers_after.Given as goal

abbrev pub invariant-loop-number : goal.invariant-loop-number
invariant-loop-number l = CountsUp l.numbers.items l.number
