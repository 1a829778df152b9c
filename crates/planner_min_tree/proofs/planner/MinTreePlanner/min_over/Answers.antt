use Rattle.planner_min_tree.specs.Points.{value_at}
use Rattle.planner_min_tree.proofs.NearLaws.{least_told}
use Rattle.planner_min_tree.proofs.PlanFacts.{marks_least}
use Rattle.planner_min_tree.proofs.planner.MinTreePlanner.min_over.Goals as goal

pub returns-in-Some-clause-least : goal.returns-in-Some-clause-least
returns-in-Some-clause-least g c = λ spans now.
    let inside = c.self.inside in
    let marks = rw (← c.self.view_is) at now in
    rw (← c.self.view_is)
    (least_told inside.total inside.points spans marks c.args.window c.in-Some.level c.requires
    (c.in-Some.ensures (λ m. value_at m inside.points inside.total) c.self.invariant.near))

pub returns-in-None-clause-least : goal.returns-in-None-clause-least
returns-in-None-clause-least g c = λ spans now.
    let marks = rw (← c.self.view_is) at now in
    rw (c.lowest_in.ensures.value, ← c.self.view_is)
    (marks_least c.self.inside.total c.self.inside.points spans c.args.window c.requires marks)
