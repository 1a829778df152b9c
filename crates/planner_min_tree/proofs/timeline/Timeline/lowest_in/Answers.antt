use Rattle.std.proofs.Common.{arith}
use Rattle.planner_min_tree.proofs.Timelines.{low_both}
use Rattle.planner_min_tree.proofs.timeline.Timeline.lowest_in.Goals as goal

pub returns-then-sum-from-clause-work : goal.returns-then-sum-from-clause-work
returns-then-sum-from-clause-work g c =
    let low =
    low_both _ _ _ _ _ c.self.view_is c.self.invariant c.height-past.ensures.low c.height-coming.ensures.low in
    omega (arith, low.0, low.1, c.lowest_in.ensures.work)

pub returns-then-to-sum-clause-work : goal.returns-then-to-sum-clause-work
returns-then-to-sum-clause-work g c =
    let low =
    low_both _ _ _ _ _ c.self.view_is c.self.invariant c.height-past.ensures.low c.height-coming.ensures.low in
    omega (arith, low.0, low.1, c.lowest_in-then-to-sum.ensures.work)

pub returns-clause-work : goal.returns-clause-work
returns-clause-work g c =
    let low =
    low_both _ _ _ _ _ c.self.view_is c.self.invariant c.height-past.ensures.low c.height-coming.ensures.low in
    omega (arith, low.0, low.1, c.lowest_from-first.ensures.work, c.lowest_before-second.ensures.work)
