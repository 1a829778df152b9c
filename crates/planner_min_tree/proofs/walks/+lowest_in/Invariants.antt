use Rattle.planner_min_tree.proofs.walks.+lowest_in.Given as goal

abbrev pub decreases-lowest_in : goal.decreases-lowest_in
decreases-lowest_in g l = l.side.tree.now.1
