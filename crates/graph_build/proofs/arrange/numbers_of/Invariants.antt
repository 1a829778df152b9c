use Rattle.graph_build.specs.Arranged.{HasNumbers}
use Rattle.graph_build.proofs.arrange.numbers_of.Given as goal

abbrev pub invariant-loop-number : goal.invariant-loop-number
invariant-loop-number l = HasNumbers l.order l.number l.numbers.items
