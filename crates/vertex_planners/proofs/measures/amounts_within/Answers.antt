use Rattle.std.proofs.Common.{length, None, refl, arith}
use Rattle.vertex_planners.proofs.RiseLaws.{rise_none}
use Rattle.vertex_planners.proofs.measures.amounts_within.Goals as goal

pub loop-claim-init : goal.loop-claim-init
loop-claim-init g c = record {
  sums = λ v. (let none = c.new-amounts.ensures.zero v in
      let still = rise_none c.args.graph.now.resources.vertices (record { from = None; more = 0 }) v refl in
      omega (arith, none, still));
  inside = λ all. tt;
  keys = λ all. c.new-amounts.ensures.keys (length c.args.graph.now.resources.vertices);
  few = λ all. (let none = c.new-amounts.ensures.count in omega (arith, none));
}
