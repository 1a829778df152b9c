use Rattle.std.proofs.Common.{◌≡◌, drop}
use Rattle.need_shape.specs.Types.{types_at}
use Rattle.need_shape.specs.Faults.{row_fault}
use Rattle.need_shape.proofs.pairs.row_fault.Given as goal

abbrev pub invariant-loop-second : goal.invariant-loop-second
invariant-loop-second l = row_fault (types_at l.graph l.table) l.first (drop l.second-index l.others)
    ≡ row_fault (types_at l.graph l.table) l.first l.others
