use Rattle.std.proofs.Common.{◌≤◌, List, [], ◌++◌, arith, sym, subst, refl}
use Rattle.planner_min_tree.specs.declared.points.Point.{Point}
use Rattle.planner_min_tree.specs.Chunks.{flat}
use Rattle.planner_min_tree.specs.Points.{Runs, latest_of}
use Rattle.planner_min_tree.proofs.NearLaws.{went_coming}
use Rattle.planner_min_tree.proofs.Timelines.{low_both}
use Rattle.planner_min_tree.proofs.timeline.Timeline.note_near.Goals as goal

pub returns-clause-noted : goal.returns-clause-noted
returns-clause-noted g c =
    let xs = c.self.inside.past.0 in
    let ys = c.self.inside.coming.0 in
    let runs : Runs (flat (xs ++ ys)) c.args.free =
    subst (λ (ps : List Point). Runs ps c.args.free) (sym c.self.view_is) c.requires in
    let over : latest_of (flat xs) ≤ c.args.from = rw c.sum-sum.ensures at c.if-from-sum.false in
    rw (← c.self.view_is)
    (went_coming xs ys c.args.free c.args.from c.args.stretches.now.items c.note_near.new.stretches.items runs over
    (rw (c.past.ensures, c.sum-sum.ensures) at c.note_near.ensures.noted [] (λ last. refl)))

pub returns-clause-work : goal.returns-clause-work
returns-clause-work g c =
    let low =
    low_both _ _ _ _ _ c.self.view_is c.self.invariant c.height-past.ensures.low c.height-coming.ensures.low in
    omega (arith, low.0, low.1, c.note_near.ensures.work)
