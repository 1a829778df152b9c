use Rattle.std.proofs.Common.{arith, inr}
use Rattle.planner_points.proofs.Frees.{less_to_next, less_for_ever}
use Rattle.planner_points.proofs.span_list.SpanList.first_left.Goals as goal

pub returns-in_default : goal.returns-in_default
returns-in_default c =
    let free = rw c.items-spans.ensures at c.left_at.ensures in
    let none = rw c.items-spans.ensures at c.in_default.ensures in
    less_for_ever c.args.self.now.total c.args.self.now.spans c.args.quantity c.args.from c.seconds.t
    c.seconds.invariant.less (omega (arith, free)) none

pub seconds-preserved : goal.seconds-preserved
seconds-preserved c =
    let free = rw c.items-spans.ensures at c.left_at.ensures in
    let next = rw c.items-spans.ensures at c.in-Some.ensures in
    record {
      later = omega (arith, next.later, c.seconds.invariant.later);
      less = less_to_next c.args.self.now.total c.args.self.now.spans c.args.quantity c.args.from c.seconds.t
          c.seconds.invariant.less (omega (arith, free)) c.in-Some.next next;
      at = inr next.end;
    }
