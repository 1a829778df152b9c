use Rattle.planner_points.specs.Spans.{span_of}
use Rattle.planner_points.proofs.Sames.{same_with}
use Rattle.planner_points.proofs.span_list.SpanListPlanner.add_span.Goals as goal

pub returns-in-Ok-clause-spans : goal.returns-in-Ok-clause-spans
returns-in-Ok-clause-spans g c = λ before after same.
    rw c.in-Ok.ensures.ok (same_with c.args.self.now.spans before after (span_of c.args.window c.args.quantity) same)
