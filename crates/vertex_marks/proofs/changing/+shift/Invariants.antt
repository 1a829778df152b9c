use Rattle.vertex_marks.proofs.changing.+shift.Given as goal

abbrev pub decreases-shift : goal.decreases-shift
decreases-shift g l = l.vertex
