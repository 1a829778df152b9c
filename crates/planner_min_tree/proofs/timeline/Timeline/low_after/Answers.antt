use Rattle.std.proofs.Common.{◌+◌, ◌-◌, ◌≤◌, List, ◌++◌, arith, sym, subst}
use Rattle.planner_min_tree.specs.declared.points.Point.{Point}
use Rattle.planner_min_tree.specs.Chunks.{flat}
use Rattle.planner_min_tree.specs.Points.{Runs, latest_of, need_of, rest_of}
use Rattle.planner_min_tree.proofs.Timelines.{low_both}
use Rattle.planner_min_tree.proofs.TwoSides.{end_never, end_past}
use Rattle.planner_min_tree.proofs.timeline.Timeline.low_after.Goals as goal

-- what is to come is so much throughout
pub returns-then-quantity-past-clause-none : goal.returns-then-quantity-past-clause-none
returns-then-quantity-past-clause-none g c =
    let xs = c.self.inside.past.0 in
    let ys = c.self.inside.coming.0 in
    let runs : Runs (flat (xs ++ ys)) c.args.free =
    subst (λ (ps : List Point). Runs ps c.args.free) (sym c.self.view_is) c.requires.runs in
    let over : latest_of (flat xs) ≤ c.args.from = rw c.sum-sum.ensures at c.if-from-sum.false in
    let high : c.args.quantity ≤ c.args.free - need_of (flat xs) + rest_of (flat xs) - need_of (flat ys) =
    rw (c.past-past.ensures, c.sum-sum.ensures, c.sum.ensures) at c.if-quantity-past.true in
    rw (← c.self.view_is)
    (end_never xs ys c.args.free runs c.args.from c.args.to c.args.quantity over c.requires.window high)

pub returns-clause-some : goal.returns-clause-some
returns-clause-some g c =
    let xs = c.self.inside.past.0 in
    let ys = c.self.inside.coming.0 in
    let runs : Runs (flat (xs ++ ys)) c.args.free =
    subst (λ (ps : List Point). Runs ps c.args.free) (sym c.self.view_is) c.requires.runs in
    let over : latest_of (flat xs) ≤ c.args.from = rw c.sum-sum.ensures at c.if-from-sum.false in
    let some = rw (c.low_end-2.ensures.value, c.past-past.ensures, c.sum-sum.ensures) at c.later_than-2.ensures.some in
    let none = rw (c.low_end-2.ensures.value, c.past-past.ensures, c.sum-sum.ensures) at c.later_than-2.ensures.none in
    rw (← c.self.view_is)
    (end_past xs ys c.args.free runs c.args.from c.args.to c.args.quantity over c.requires.window c.later_than-2.result
    some none).0

pub returns-clause-none : goal.returns-clause-none
returns-clause-none g c =
    let xs = c.self.inside.past.0 in
    let ys = c.self.inside.coming.0 in
    let runs : Runs (flat (xs ++ ys)) c.args.free =
    subst (λ (ps : List Point). Runs ps c.args.free) (sym c.self.view_is) c.requires.runs in
    let over : latest_of (flat xs) ≤ c.args.from = rw c.sum-sum.ensures at c.if-from-sum.false in
    let some = rw (c.low_end-2.ensures.value, c.past-past.ensures, c.sum-sum.ensures) at c.later_than-2.ensures.some in
    let none = rw (c.low_end-2.ensures.value, c.past-past.ensures, c.sum-sum.ensures) at c.later_than-2.ensures.none in
    rw (← c.self.view_is)
    (end_past xs ys c.args.free runs c.args.from c.args.to c.args.quantity over c.requires.window c.later_than-2.result
    some none).1

pub returns-clause-work : goal.returns-clause-work
returns-clause-work g c =
    let low =
    low_both _ _ _ _ _ c.self.view_is c.self.invariant c.height-past.ensures.low c.height-coming.ensures.low in
    omega (arith, low.0, low.1, c.low_end-2.ensures.work)
