use Rattle.planner_points.proofs.Lasts.{last_same}
use Rattle.planner_points.proofs.span_list.SpanListPlanner.last_below.Goals as goal

pub returns-clause-last : goal.returns-clause-last
returns-clause-last g c = λ spans same.
    last_same c.args.self.now.total c.args.self.now.spans spans c.args.window c.args.quantity same _
    c.last_left.ensures
