use Rattle.std.proofs.Common.{◌≡◌, drop, fold}
use Rattle.std.specs.Ordering.{nat_cmp}
use Rattle.std.specs.BTreeSet.{insert_key}
use Rattle.resource_set_r.specs.Rows.{rising}
use Rattle.resource_set_r.proofs.sets.sorted.Given as goal

abbrev pub invariant-numbers : goal.invariant-numbers
invariant-numbers l = fold (insert_key nat_cmp) l.set.keys (drop l.number-index l.numbers) ≡ rising l.numbers
