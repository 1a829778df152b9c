use Rattle.planner_min_tree.proofs.walks.+last_rise.Given as goal

abbrev pub decreases-last_rise : goal.decreases-last_rise
decreases-last_rise g l = l.side.tree.now.1
