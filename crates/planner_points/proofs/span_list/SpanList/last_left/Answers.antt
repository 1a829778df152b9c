use Rattle.std.proofs.Common.{arith}
use Rattle.planner_points.proofs.Lasts.{last_here, last_before}
use Rattle.planner_points.proofs.span_list.SpanList.last_left.Goals as goal

pub stretches-preserved-then-left_at-quantity : goal.stretches-preserved-then-left_at-quantity
stretches-preserved-then-left_at-quantity c =
    let same = rw c.items-spans.ensures at c.stretch_end-end.ensures.same in
    let free = rw c.items-spans.ensures at c.left_at.ensures in
    record {
      later = omega (arith, c.stretches.invariant.later, c.stretch_end-end.ensures.later);
      within = c.stretch_end-end.ensures.within;
      last = last_here c.args.self.now.total c.args.self.now.spans c.args.window.from c.args.quantity
          c.stretches.t
          c.stretch_end-end.result c.stretches.invariant.later c.stretch_end-end.ensures.later same
          (let f = c.if-left_at-quantity.true in omega arith);
    }

pub stretches-preserved : goal.stretches-preserved
stretches-preserved c =
    let same = rw c.items-spans.ensures at c.stretch_end-end.ensures.same in
    let free = rw c.items-spans.ensures at c.left_at.ensures in
    record {
      later = omega (arith, c.stretches.invariant.later, c.stretch_end-end.ensures.later);
      within = c.stretch_end-end.ensures.within;
      last = last_before c.args.self.now.total c.args.self.now.spans c.args.window.from c.args.quantity
          c.stretches.t
          c.stretch_end-end.result c.stretches.invariant.later c.stretch_end-end.ensures.later same
          (let f = c.if-left_at-quantity.false in omega arith) c.stretches.last c.stretches.invariant.last;
    }
