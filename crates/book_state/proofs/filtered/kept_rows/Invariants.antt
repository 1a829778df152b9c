use Rattle.std.proofs.Common.{◌≤◌, ◌-◌, length, take}
use Rattle.std.specs.List.{AllZip}
use Rattle.book_state.specs.Filtered.{IsKeptRow}
use Rattle.book_state.proofs.filtered.kept_rows.Given as goal

-- the types so far
abbrev pub invariant-loop-high : goal.invariant-loop-high
invariant-loop-high l = record {
  within : l.kind ≤ length l.graph.resources.kinds;
  so_far : AllZip (IsKeptRow l.graph.resources.kinds l.rules) (take l.kind l.graph.resources.kinds) l.rows.items;
}

abbrev pub decreases-loop-high : goal.decreases-loop-high
decreases-loop-high l = length l.graph.resources.kinds - l.kind
