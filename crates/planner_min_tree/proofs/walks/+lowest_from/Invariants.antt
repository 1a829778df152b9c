use Rattle.planner_min_tree.proofs.walks.+lowest_from.Given as goal

abbrev pub decreases-lowest_from : goal.decreases-lowest_from
decreases-lowest_from g l = l.side.tree.now.1
