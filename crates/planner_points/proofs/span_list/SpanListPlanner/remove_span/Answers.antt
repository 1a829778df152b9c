use Rattle.planner_points.specs.Spans.{span_of}
use Rattle.planner_points.proofs.Sames.{same_without}
use Rattle.planner_points.proofs.span_list.SpanListPlanner.remove_span.Goals as goal

pub returns-clause-spans : goal.returns-clause-spans
returns-clause-spans g c = λ before after same.
    let place = rw c.items.ensures at c.place_of-at.ensures.place in
    rw (c.of_vec.ensures, c.remove.ensures.items, c.into_vec-spans.ensures, c.replace.ensures.value)
    (same_without c.args.self.now.spans before after (span_of c.args.window c.args.quantity) _ place same)
