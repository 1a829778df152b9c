use Rattle.vertex_planners.proofs.measures.+raise.Given as goal

abbrev pub decreases-raise : goal.decreases-raise
decreases-raise l = l.most
