use Rattle.std.proofs.Common.{◌-◌, ◌≤◌, length}
use Rattle.dfu_match.specs.Rows.{AreNone}
use Rattle.dfu_match.proofs.knowing.Known.first_serving.Given as goal

-- the rows that were passed are of vertices that serve nothing
abbrev pub invariant-each : goal.invariant-each
invariant-each l = record {
  later : l.start ≤ l.at;
  none : AreNone l.from l.start l.at l.rows;
}

-- the rows that are still to come
abbrev pub decreases-each : goal.decreases-each
decreases-each l = length l.rows - l.at
