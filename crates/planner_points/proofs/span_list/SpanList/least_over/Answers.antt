use Rattle.std.proofs.Common.{arith}
use Rattle.planner_points.proofs.Starts.{least_next, least_last}
use Rattle.planner_points.proofs.span_list.SpanList.least_over.Goals as goal

pub returns-in_default : goal.returns-in_default
returns-in_default c =
    let spans = c.args.self.now.spans in
    let none = rw c.items-spans.ensures at c.in_default.ensures in
    least_last c.args.self.now.total spans c.args.window.from c.loop-next.t c.args.window.to c.loop-next.least
    c.loop-next.invariant.later c.loop-next.invariant.inside c.loop-next.invariant.least (λ e a b end. none e a end)

pub returns-then-next-window : goal.returns-then-next-window
returns-then-next-window c =
    let spans = c.args.self.now.spans in
    let next = rw c.items-spans.ensures at c.in-Some.ensures in
    least_last c.args.self.now.total spans c.args.window.from c.loop-next.t c.args.window.to c.loop-next.least
    c.loop-next.invariant.later c.loop-next.invariant.inside c.loop-next.invariant.least
    (λ e a b end. absurd (let l = next.least e a end in let f = c.if-next-window.true in omega arith))

pub loop-next-preserved : goal.loop-next-preserved
loop-next-preserved c =
    let spans = c.args.self.now.spans in
    let next = rw c.items-spans.ensures at c.in-Some.ensures in
    let free = rw c.items-spans.ensures at c.left_at.ensures in
    record {
      later = omega (arith, next.later, c.loop-next.invariant.later);
      inside = let f = c.if-next-window.false in omega arith;
      least = least_next c.args.self.now.total spans c.args.window.from c.loop-next.t c.in-Some.next c.loop-next.least
          c.left_at.result c.min-least.result c.loop-next.invariant.later c.loop-next.invariant.least next free
          c.min-least.ensures;
    }
