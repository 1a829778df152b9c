use Rattle.std.proofs.Common.{◌≡◌, ◌++◌, drop}
use Rattle.resource_set_r.specs.ReadRows.{ranges_in}
use Rattle.resource_set_r.proofs.ranks.ranges_in.Given as goal

abbrev pub invariant-rows : goal.invariant-rows
invariant-rows l = l.ranges.items ++ ranges_in (drop l.row-index l.rows) ≡ ranges_in l.rows
