use Rattle.std.proofs.Common.{◌≡◌, ◌++◌, length}
use Rattle.resource_set_r.proofs.sets.numbers_of.Given as goal

abbrev pub invariant-numbers : goal.invariant-numbers
invariant-numbers l = l.list.items ++ l.set.keys ≡ l.fn.set.keys

abbrev pub decreases-numbers : goal.decreases-numbers
decreases-numbers l = length l.set.keys
