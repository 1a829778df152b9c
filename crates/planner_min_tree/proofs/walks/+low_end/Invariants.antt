use Rattle.planner_min_tree.proofs.walks.+low_end.Given as goal

abbrev pub decreases-low_end : goal.decreases-low_end
decreases-low_end g l = l.side.tree.now.1
