use Rattle.planner_min_tree.proofs.PlanFacts.{few_points}
use Rattle.planner_min_tree.proofs.planner.has_few_points.Goals as goal

pub returns : goal.returns
returns c = λ spans marks. few_points c.args.planner.now.total c.args.planner.now.points spans marks
