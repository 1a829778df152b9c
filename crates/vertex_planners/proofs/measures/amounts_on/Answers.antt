use Rattle.std.proofs.Common.{arith}
use Rattle.vertex_planners.proofs.ClaimSums.{on_step, inside_item}
use Rattle.vertex_planners.proofs.measures.amounts_on.Goals as goal

pub loop-claim-init : goal.loop-claim-init
loop-claim-init g c = record {
  sums = c.new-amounts.ensures.zero;
  keys = λ most all. c.new-amounts.ensures.keys most;
  few = (let none = c.new-amounts.ensures.count in omega (arith, none));
}

pub loop-claim-preserved : goal.loop-claim-preserved
loop-claim-preserved g c = record {
  sums = λ v. on_step (g.M.Measure.amount c.args.measure.now)
      v c.args.claims.now c.loop-claim.claim-index _ _ _ _ _ c.loop-claim-test.true
      (c.in_ok-add_some.ensures.sum v) (c.loop-claim.invariant.sums v) c.vertex.ensures c.amount_of.ensures;
  keys = λ most all. c.in_ok-add_some.ensures.keys most (inside_item most c.args.claims.now
      c.loop-claim.claim-index _ _ c.loop-claim-test.true c.vertex.ensures all) (c.loop-claim.invariant.keys most all);
  few = (let one = c.in_ok-add_some.ensures.count in let rest = c.loop-claim.invariant.few in omega (arith, one, rest));
}
