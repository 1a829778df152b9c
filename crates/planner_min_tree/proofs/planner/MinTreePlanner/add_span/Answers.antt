use Rattle.std.proofs.Common.{arith, length, ◌+◌, [], ◌∷◌}
use Rattle.planner_points.specs.Spans.{span_of}
use Rattle.planner_min_tree.specs.Marks.{start_of, stop_of}
use Rattle.planner_min_tree.specs.declared.marking.Change.TheVariants.{More}
use Rattle.planner_min_tree.proofs.Doubles.{dig_changed}
use Rattle.flux_defs.proofs.DigitLaws.{some_dig}
use Rattle.planner_min_tree.proofs.PlanFacts.{marks_none, marks_with}
use Rattle.planner_min_tree.proofs.planner.MinTreePlanner.add_span.Goals as goal

pub invariant_of-self : goal.invariant_of-self
invariant_of-self g c =
    let spans = c.self.invariant.spans in
    let marks = c.self.invariant.marks in
    let room = rw (← c.self.view_is) at c.requires.room in
    record {
      spans = span_of c.args.window c.args.quantity ∷ spans;
      marks = rw c.in-Ok.ensures.items
          (marks_with c.self.inside.total c.self.inside.points c.args.window c.args.quantity c.requires.window
          [] spans marks (room spans marks));
      near = rw c.none-self-inside.ensures tt;
    }

pub invariant_of-self-in-Err : goal.invariant_of-self-in-Err
invariant_of-self-in-Err g c =
    record {
      spans = [];
      marks = rw c.empty.ensures (marks_none c.self.inside.total);
      near = rw c.none-self-inside.ensures tt;
    }

pub returns-in-Ok-clause-spans : goal.returns-in-Ok-clause-spans
returns-in-Ok-clause-spans g c = λ before after now.
    let marks = rw (← c.self.view_is) at now in
    let room = rw (← c.self.view_is) at c.requires.room in
    rw (c.renew.ensures.same, c.in-Ok.ensures.items)
    (marks_with c.self.inside.total c.self.inside.points c.args.window c.args.quantity c.requires.window
    before after marks (room _ marks))

pub returns-in-Ok-clause-work : goal.returns-in-Ok-clause-work
returns-in-Ok-clause-work g c =
    let points = c.self.inside.points in
    let more = dig_changed
    (More (stop_of c.args.window c.args.quantity)) (More (start_of c.args.window c.args.quantity)) points
    c.change_twice.new.self c.in-Ok.ensures.items in
    rw (← c.self.view_is)
    (omega (arith, more, c.renew.ensures.work, c.change_twice.ensures.work, some_dig (length points + 2)))
