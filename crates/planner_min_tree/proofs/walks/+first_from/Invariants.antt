use Rattle.planner_min_tree.proofs.walks.+first_from.Given as goal

abbrev pub decreases-first_from : goal.decreases-first_from
decreases-first_from g l = l.side.tree.now.1
