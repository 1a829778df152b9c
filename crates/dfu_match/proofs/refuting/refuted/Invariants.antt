use Rattle.std.proofs.Common.{ℕ, ◌<◌, ◌≤◌, drop}
use Rattle.flux_defs.specs.Needs.{amount_of}
use Rattle.dfu_match.specs.Rows.{served_most}
use Rattle.dfu_match.proofs.refuting.refuted.Given as goal

-- until `last`, where the rows that are left leave less than what is lacking, all rows leave less than the amount
abbrev pub invariant-loop-row : goal.invariant-loop-row
invariant-loop-row l = record {
  later : l.from ≤ l.last;
  some : 1 ≤ l.lacking;
  lacks : (t : ℕ) → l.from ≤ t → t ≤ l.last → served_most l.need t (drop l.row-index l.rows) < l.lacking →
      served_most l.need t l.rows < amount_of l.need;
}
