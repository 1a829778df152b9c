use Rattle.planner_points.proofs.Sames.{next_same}
use Rattle.planner_points.proofs.span_list.SpanListPlanner.next_point.Goals as goal

pub returns-clause-next : goal.returns-clause-next
returns-clause-next g c = λ spans same.
    next_same c.args.self.now.spans spans c.args.after same _ (rw (← c.items.ensures) c.next_end.ensures)
