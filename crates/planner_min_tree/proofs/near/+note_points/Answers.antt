use Rattle.std.proofs.Common.{arith}
use Rattle.planner_min_tree.proofs.NearLaws.{went_end, went_past, went_later}
use Rattle.planner_min_tree.proofs.near.+note_points.Goals as goal

pub returns-then-point-from : goal.returns-then-point-from
returns-then-point-from t c = λ more last.
    went_past c.args.free c.args.from c.args.stretches.now.items c.note_points.new.stretches.items
    c.args.points.now more _ c.in-len1-up.len_at_least (omega (arith, c.if-point-from.true))
    (rw (c.past-past.ensures) at c.note_points.ensures more last)

pub returns-else-is_full : goal.returns-else-is_full
returns-else-is_full t c = λ more last.
    went_later c.args.free c.args.from c.args.stretches.now.items c.note_points-in-len1-up.new.stretches.items
    c.args.points.now more _ c.in-len1-up.len_at_least (omega (arith, c.if-point-from.false))
    (rw (c.past-past.ensures, c.push.ensures.items) at c.note_points-in-len1-up.ensures more last)

pub returns-then-last : goal.returns-then-last
returns-then-last t c = λ more last.
    went_end c.args.free c.args.from c.args.stretches.now.items c.put.new.stretches.items c.args.points.now more
    c.in-empty.len_below (last c.if-last.true) (omega (arith, c.ranges.from.fits)) c.put.ensures
