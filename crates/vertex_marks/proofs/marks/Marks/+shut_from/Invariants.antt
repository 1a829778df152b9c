use Rattle.vertex_marks.proofs.marks.Marks.+shut_from.Given as goal

abbrev pub decreases-shut_from : goal.decreases-shut_from
decreases-shut_from g l = l.vertex
