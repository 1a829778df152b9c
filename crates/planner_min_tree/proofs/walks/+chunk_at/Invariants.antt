use Rattle.planner_min_tree.proofs.walks.+chunk_at.Given as goal

abbrev pub decreases-chunk_at : goal.decreases-chunk_at
decreases-chunk_at g l = l.side.tree.now.1
