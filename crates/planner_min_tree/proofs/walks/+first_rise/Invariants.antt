use Rattle.planner_min_tree.proofs.walks.+first_rise.Given as goal

abbrev pub decreases-first_rise : goal.decreases-first_rise
decreases-first_rise g l = l.side.tree.now.1
