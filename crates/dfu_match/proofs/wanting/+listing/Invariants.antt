use Rattle.std.proofs.Common.{take}
use Rattle.dfu_match.specs.Tables.{needs_all, Grows, IsWantedBy}
use Rattle.dfu_match.proofs.wanting.+listing.Given as goal

-- the table has the entries of the needs so far
abbrev pub invariant-list_all-loop-need : goal.invariant-list_all-loop-need
invariant-list_all-loop-need l =
    Grows (IsWantedBy l.kinds.graph.now.resources.vertices) (needs_all (take l.need-index l.need-items))
    l.initial.table.items l.table.items
