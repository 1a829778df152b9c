use Rattle.std.proofs.Common.{length}
use Rattle.vertex_planners.proofs.rows.clear.Given as goal

abbrev pub decreases-loop : goal.decreases-loop
decreases-loop l = length l.row
