use Rattle.std.proofs.Common.{◌≤◌, ◌-◌, length, vec_len}
use Rattle.graph_build.specs.Arranged.{AreUnused}
use Rattle.graph_build.proofs.arrange.no_numbers.Given as goal

abbrev pub invariant-loop-numbers : goal.invariant-loop-numbers
invariant-loop-numbers l = AreUnused (vec_len l.numbers) l.numbers.items × (vec_len l.numbers ≤ length l.kinds)

abbrev pub decreases-loop-numbers : goal.decreases-loop-numbers
decreases-loop-numbers l = length l.kinds - vec_len l.numbers
