use Rattle.planner_points.proofs.Sames.{first_same}
use Rattle.planner_points.proofs.span_list.SpanListPlanner.first_at_least.Goals as goal

pub returns : goal.returns
returns g c = record {
  first = λ spans same. first_same c.args.self.now.total c.args.self.now.horizon c.args.self.now.spans spans
      c.args.from c.args.duration c.args.quantity same _ c.first_start.ensures;
}
