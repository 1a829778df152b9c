use Rattle.std.proofs.Common.{refl, arith}
use Rattle.vertex_planners.specs.declared.measures.Rise.{Rise}
use Rattle.vertex_planners.proofs.RiseLaws.{rise_none, rise_both}
use Rattle.vertex_planners.proofs.measures.Rise.with.Goals as goal

pub returns-then-next-eq0-clause-sums : goal.returns-then-next-eq0-clause-sums
returns-then-next-eq0-clause-sums c = λ v.
    let none = rise_none c.args.graph.now.resources.vertices c.args.next v c.if-next-eq0.true in omega (arith, none)

pub returns-then-is_same-clause-sums : goal.returns-then-is_same-clause-sums
returns-then-is_same-clause-sums c = λ v.
    let both : Rise = record { from = c.args.next.from; more = c.in-Some.more } in
    let is = c.in-Some.ensures.1 in
    let sum = rise_both c.args.graph.now.resources.vertices c.args.self c.args.next both v
    (c.is_same.ensures c.if-is_same.true) refl (omega (arith, is)) in omega (arith, sum)
