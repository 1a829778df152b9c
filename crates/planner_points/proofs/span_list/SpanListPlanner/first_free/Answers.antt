use Rattle.planner_points.proofs.Frees.{first_free_same}
use Rattle.planner_points.proofs.span_list.SpanListPlanner.first_free.Goals as goal

pub returns-clause-first : goal.returns-clause-first
returns-clause-first g c = λ spans same.
    first_free_same c.args.self.now.total c.args.self.now.spans spans c.args.from c.args.quantity same _
    c.first_left.ensures
