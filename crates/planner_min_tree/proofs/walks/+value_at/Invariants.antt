use Rattle.planner_min_tree.proofs.walks.+value_at.Given as goal

abbrev pub decreases-value_at : goal.decreases-value_at
decreases-value_at g l = l.side.tree.now.1
