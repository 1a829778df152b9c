use Rattle.std.proofs.Common.{◌≡◌, ◌≤◌, take}
use Rattle.dfu_match.specs.Rows.{IsLeft}
use Rattle.dfu_match.proofs.leaving.left_of.Given as goal

-- what the rows that are passed leave
abbrev pub invariant-loop-row : goal.invariant-loop-row
invariant-loop-row l = record {
  left : IsLeft l.need (take l.row-index l.rows) l.left;
  from : l.left.from ≡ l.from;
  opens : l.left.from ≤ l.left.until;
}
