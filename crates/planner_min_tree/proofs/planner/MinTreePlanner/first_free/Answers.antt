use Rattle.planner_min_tree.specs.Points.{value_at}
use Rattle.planner_min_tree.proofs.NearLaws.{first_told}
use Rattle.planner_min_tree.proofs.Rises.{first_here, first_later}
use Rattle.planner_min_tree.proofs.planner.MinTreePlanner.first_free.Goals as goal

pub returns-in-Some-clause-first : goal.returns-in-Some-clause-first
returns-in-Some-clause-first g c = λ spans now.
    let inside = c.self.inside in
    let marks = rw (← c.self.view_is) at now in
    rw (← c.self.view_is)
    (first_told inside.total inside.points spans marks c.args.from c.args.quantity c.in-Some.first
    (c.in-Some.ensures (λ m. value_at m inside.points inside.total) c.self.invariant.near))

pub returns-then-value_at-quantity-clause-first : goal.returns-then-value_at-quantity-clause-first
returns-then-value_at-quantity-clause-first g c = λ spans now.
    let marks = rw (← c.self.view_is) at now in
    rw (← c.self.view_is)
    (first_here c.self.inside.total c.self.inside.points spans marks c.args.from c.args.quantity
    (rw c.value_at.ensures.value at c.if-value_at-quantity.true))

pub returns-clause-first : goal.returns-clause-first
returns-clause-first g c = λ spans now.
    let marks = rw (← c.self.view_is) at now in
    rw (← c.self.view_is)
    (first_later c.self.inside.total c.self.inside.points spans marks c.args.from c.args.quantity
    (rw c.value_at.ensures.value at c.if-value_at-quantity.false) _ c.rise_after.ensures.value)
