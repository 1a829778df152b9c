use Rattle.std.proofs.Common.{◌≡◌, ◌++◌, ◌+◌, ◌-◌}
use Rattle.idset_text.specs.Idsets.{ids_from}
use Rattle.graph_from_r.specs.Places.{placed}
use Rattle.graph_from_r.proofs.places.add_range.Given as goal

-- what was added, and what is left to add
abbrev pub invariant-ranks : goal.invariant-ranks
invariant-ranks l = l.places.items ++ placed l.row (ids_from (l.hi + 1 - l.rank) l.rank)
    ≡ l.fn.places.items ++ placed l.row (ids_from (l.hi + 1 - l.lo) l.lo)
