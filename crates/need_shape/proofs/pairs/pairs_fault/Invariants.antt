use Rattle.std.proofs.Common.{◌≡◌, length}
use Rattle.need_shape.specs.Types.{types_at}
use Rattle.need_shape.specs.Faults.{pairs_fault}
use Rattle.need_shape.proofs.pairs.pairs_fault.Given as goal

abbrev pub invariant-loop-first : goal.invariant-loop-first
invariant-loop-first l = pairs_fault (types_at l.graph l.table) l.rest ≡ pairs_fault (types_at l.graph l.table) l.needs

abbrev pub decreases-loop-first : goal.decreases-loop-first
decreases-loop-first l = length l.rest
