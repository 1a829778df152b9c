use Rattle.graph_build.proofs.KindLaws.{Numbering}
use Rattle.graph_build.proofs.arrange.numbered_kinds.Given as goal

abbrev pub invariant-loop-at : goal.invariant-loop-at
invariant-loop-at l = Numbering l.kinds l.vertices l.order l.at-index l.numbering
