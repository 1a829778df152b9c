use Rattle.std.proofs.Common.{◌≡◌, ◌≤◌, ◌++◌, ◌-◌, drop, length}
use Rattle.fluxion_lines.proofs.input.names_of.Given as goal

abbrev pub invariant-loop-name : goal.invariant-loop-name
invariant-loop-name l = record {
  names : l.names.items ++ drop l.number l.table ≡ l.table;
  within : l.number ≤ length l.table;
}

abbrev pub decreases-loop-name : goal.decreases-loop-name
decreases-loop-name l = length l.table - l.number
