use Rattle.vertex_planners.specs.Numbers.{amount_at}
use Rattle.vertex_planners.proofs.ClaimSums.{none_more}
use Rattle.vertex_planners.proofs.measures.add_some.Goals as goal

pub returns-then-more-eq0-clause-sum : goal.returns-then-more-eq0-clause-sum
returns-then-more-eq0-clause-sum c = λ v. none_more _ (amount_at c.args.amounts.now v) c.args.more c.if-more-eq0.true
