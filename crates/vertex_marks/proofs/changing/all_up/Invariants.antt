use Rattle.std.proofs.Common.{◌-◌, ◌≤◌, length}
use Rattle.vertex_marks.proofs.MarkLaws.{AllUp}
use Rattle.vertex_marks.proofs.changing.all_up.Given as goal

abbrev pub invariant-making : goal.invariant-making
invariant-making g l = AllUp l.pages × (length l.pages ≤ length l.vertices)

abbrev pub decreases-making : goal.decreases-making
decreases-making g l = length l.vertices - length l.pages
