use Rattle.planner_min_tree.proofs.walks.+lowest_before.Given as goal

abbrev pub decreases-lowest_before : goal.decreases-lowest_before
decreases-lowest_before g l = l.side.tree.now.1
