use Rattle.planner_min_tree.proofs.PlanFacts.{marks_none}
use Rattle.planner_min_tree.proofs.planner.MinTreePlanner.empty.Goals as goal

pub returns-clause-spans : goal.returns-clause-spans
returns-clause-spans c = rw c.empty.ensures (marks_none c.args.total)
