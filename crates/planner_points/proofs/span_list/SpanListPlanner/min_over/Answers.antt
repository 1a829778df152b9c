use Rattle.planner_points.proofs.Sames.{least_same}
use Rattle.planner_points.proofs.span_list.SpanListPlanner.min_over.Goals as goal

pub returns-clause-least : goal.returns-clause-least
returns-clause-least g c = λ spans same.
    least_same c.args.self.now.total c.args.self.now.spans spans c.args.window _ same c.least_over.ensures
