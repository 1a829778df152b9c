use Rattle.planner_min_tree.proofs.walks.+note_near.Given as goal

abbrev pub decreases-note_near : goal.decreases-note_near
decreases-note_near g l = l.side.tree.now.1
