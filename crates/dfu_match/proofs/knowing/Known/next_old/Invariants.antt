use Rattle.std.proofs.Common.{◌-◌, ◌≤◌, length}
use Rattle.dfu_match.proofs.knowing.Known.next_old.Given as goal

-- the index is none before the first
abbrev pub invariant-each : goal.invariant-each
invariant-each l = record {
  later : l.start ≤ l.at;
}

-- the rows that are still to come
abbrev pub decreases-each : goal.decreases-each
decreases-each l = length l.rows - l.at
