use Rattle.std.proofs.Common.{◌≡◌, ◌+◌, ◌<◌, ℕ, Option, IfSome, length, sym, subst}
use Rattle.flux_defs.specs.Graph.{chain}
use Rattle.vertex_planners.specs.Numbers.{amount_at, count_of}
use Rattle.vertex_planners.specs.Chains.{sum_on}
use Rattle.vertex_planners.proofs.ClaimSums.{chain_step, parent_inside}
use Rattle.vertex_planners.proofs.Counts.{chain_counts}
use Rattle.vertex_planners.proofs.measures.+raise.Goals as goal

pub returns-clause-sums : goal.returns-clause-sums
returns-clause-sums t c = λ v.
    subst (λ (o : Option ℕ). amount_at c.raise.new.amounts v ≡ amount_at c.args.amounts.now v + sum_on v c.args.more
    (chain c.args.vertices.now c.args.most o)) (sym c.in-Some.is)
    (chain_step c.args.vertices.now c.args.most c.in-Some.vertex v c.args.more _ _ _ c.parent_in-above.result
    c.if-most-eq0.false (c.in_ok-add.ensures.sum v) c.parent_in-above.ensures (c.in_ok-raise.ensures.sums v))

pub returns-clause-keys : goal.returns-clause-keys
returns-clause-keys t c = λ parents within keys.
    c.in_ok-raise.ensures.keys parents
    (parent_inside c.args.vertices.now c.in-Some.vertex c.parent_in-above.result c.parent_in-above.ensures parents)
    (c.in_ok-add.ensures.keys (length c.args.vertices.now)
    (subst (λ (o : Option ℕ). IfSome o (λ v. v < length c.args.vertices.now)) c.in-Some.is within) keys)

pub returns-clause-few : goal.returns-clause-few
returns-clause-few t c =
    chain_counts c.args.vertices.now c.args.most c.in-Some.vertex (count_of c.args.amounts.now)
    (count_of c.add.new.self) (count_of c.raise.new.amounts) c.args.from c.parent_in-above.result
    c.if-most-eq0.false c.in-Some.is c.parent_in-above.ensures c.add.ensures.count c.in_ok-raise.ensures.few
