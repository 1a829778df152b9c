use Rattle.std.proofs.Common.{arith}
use Rattle.planner_min_tree.proofs.Timelines.{low_both}
use Rattle.planner_min_tree.proofs.timeline.Timeline.low_end.Goals as goal

pub returns-then-to-sum-clause-work : goal.returns-then-to-sum-clause-work
returns-then-to-sum-clause-work g c =
    let low =
    low_both _ _ _ _ _ c.self.view_is c.self.invariant c.height-past.ensures.low c.height-coming.ensures.low in
    omega (arith, low.0, low.1, c.low_end.ensures.work)

pub returns-in-Some-clause-work : goal.returns-in-Some-clause-work
returns-in-Some-clause-work g c =
    let low =
    low_both _ _ _ _ _ c.self.view_is c.self.invariant c.height-past.ensures.low c.height-coming.ensures.low in
    omega (arith, low.0, low.1, c.low_end-2.ensures.work)

pub returns-in-None-clause-work : goal.returns-in-None-clause-work
returns-in-None-clause-work g c =
    let low =
    low_both _ _ _ _ _ c.self.view_is c.self.invariant c.height-past.ensures.low c.height-coming.ensures.low in
    let none = rw c.in-None.is at c.low_end-2.ensures.none in
    omega (arith, low.0, low.1, none, c.some_last_rise.ensures.work)
