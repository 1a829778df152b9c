use Rattle.planner_min_tree.specs.Points.{value_at}
use Rattle.planner_min_tree.proofs.NearLaws.{room_told, room_or_less}
use Rattle.planner_min_tree.proofs.planner.MinTreePlanner.has_room.Goals as goal

pub returns-in-Some-clause-answer : goal.returns-in-Some-clause-answer
returns-in-Some-clause-answer g c = λ spans now.
    let inside = c.self.inside in
    let marks = rw (← c.self.view_is) at now in
    rw (← c.self.view_is)
    (room_told inside.total inside.points spans marks c.args.window c.args.quantity c.in-Some.room
    (c.in-Some.ensures (λ m. value_at m inside.points inside.total) c.self.invariant.near))

pub returns-in-None-clause-answer : goal.returns-in-None-clause-answer
returns-in-None-clause-answer g c = λ spans now.
    room_or_less c.args.self.now.total spans c.args.window c.args.quantity _ (c.min_over.ensures.least spans now)
