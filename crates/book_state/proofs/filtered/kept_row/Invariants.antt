use Rattle.std.proofs.Common.{◌≤◌, ◌-◌, ◌↔◌, IsTrue, length, take}
use Rattle.std.specs.List.{AllZip}
use Rattle.prune_filters.specs.Filters.{IsKept}
use Rattle.book_state.proofs.filtered.kept_row.Given as goal

-- the types so far
abbrev pub invariant-loop-low : goal.invariant-loop-low
invariant-loop-low l = record {
  within : l.kind ≤ length l.graph.resources.kinds;
  so_far : AllZip (λ low kept. IsTrue kept ↔ IsKept l.rules l.high low)
      (take l.kind l.graph.resources.kinds) l.row.items;
}

abbrev pub decreases-loop-low : goal.decreases-loop-low
decreases-loop-low l = length l.graph.resources.kinds - l.kind
