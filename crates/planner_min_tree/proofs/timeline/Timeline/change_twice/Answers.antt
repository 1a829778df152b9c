use Rattle.std.proofs.Common.{arith}
use Rattle.planner_min_tree.proofs.Timelines.{low_both}
use Rattle.planner_min_tree.proofs.timeline.Timeline.change_twice.Goals as goal

pub returns-clause-work : goal.returns-clause-work
returns-clause-work g c =
    let low =
    low_both _ _ _ _ _ c.self.view_is c.self.invariant c.height-past.ensures.low c.height-coming.ensures.low in
    omega (arith, low.0, low.1, c.both_change.ensures.work)
