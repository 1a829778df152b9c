use Rattle.std.proofs.Common.{◌+◌, ◌*◌}
use Rattle.job_table.proofs.parts.+setting.Given as goal

abbrev pub decreases-Part::set : goal.decreases-Part::set
decreases-Part::set g l = 2 * l.digits + 1

abbrev pub decreases-set_below : goal.decreases-set_below
decreases-set_below g l = 2 * (l.node.now.below + 1)
