use Rattle.planner_min_tree.proofs.walks.+rise_after.Given as goal

abbrev pub decreases-rise_after : goal.decreases-rise_after
decreases-rise_after g l = l.side.tree.now.1
