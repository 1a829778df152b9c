use Rattle.std.proofs.Common.{arith}
use Rattle.planner_points.proofs.Starts.{none_to_next, none_at_all, first_found}
use Rattle.planner_points.proofs.span_list.SpanList.first_start.Goals as goal

pub returns-then-may_start : goal.returns-then-may_start
returns-then-may_start c =
    first_found c.args.self.now.total c.args.self.now.horizon c.args.self.now.spans c.args.duration
    c.args.quantity
    c.requires c.args.from c.loop-from.t c.loop-from.invariant.later c.loop-from.invariant.none
    (c.may_start.ensures.0 (cc))

pub returns-in_default : goal.returns-in_default
returns-in_default c =
    let none = rw c.items.ensures at c.in_default.ensures in
    none_at_all c.args.self.now.total c.args.self.now.horizon c.args.self.now.spans c.args.duration
    c.args.quantity
    c.requires c.args.from c.loop-from.t c.loop-from.invariant.none
    (λ s. let t = c.may_start.ensures.1 s in absurd (cc)) none

pub loop-from-preserved : goal.loop-from-preserved
loop-from-preserved c =
    let next = rw c.items.ensures at c.in-Some.ensures in
    record {
      later = omega (arith, next.later, c.loop-from.invariant.later);
      none = none_to_next c.args.self.now.total c.args.self.now.horizon c.args.self.now.spans c.args.duration
          c.args.quantity c.requires c.args.from c.loop-from.t c.in-Some.next c.loop-from.invariant.none
          (λ s. let t = c.may_start.ensures.1 s in absurd (cc)) next;
    }
