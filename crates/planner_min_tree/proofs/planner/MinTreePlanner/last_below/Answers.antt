use Rattle.planner_min_tree.proofs.LowEnds.{room_before, last_there}
use Rattle.planner_min_tree.proofs.planner.MinTreePlanner.last_below.Goals as goal

pub returns-in-None-clause-last : goal.returns-in-None-clause-last
returns-in-None-clause-last g c = λ spans now.
    let marks = rw (← c.self.view_is) at now in
    rw (← c.self.view_is)
    (room_before c.self.inside.total c.self.inside.points spans marks c.args.window c.args.quantity
    c.in-None.ensures.none)

pub returns-in-Some-low_after-clause-last : goal.returns-in-Some-low_after-clause-last
returns-in-Some-low_after-clause-last g c = λ spans now.
    let marks = rw (← c.self.view_is) at now in
    let some = c.in-Some-low_after.ensures.some in
    rw (← c.self.view_is)
    (last_there c.self.inside.total c.self.inside.points spans marks c.args.window c.args.quantity
    c.in-Some-low_after.end some.1 some.0)
