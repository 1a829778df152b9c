use Rattle.std.proofs.Common.{◌≡◌, drop}
use Rattle.resource_set_r.specs.ReadRows.{overlap_from}
use Rattle.resource_set_r.proofs.ranks.first_overlap.Given as goal

abbrev pub invariant-spans : goal.invariant-spans
invariant-spans l = overlap_from l.last (drop l.range-index l.others) ≡ overlap_from l.fn.first l.others
