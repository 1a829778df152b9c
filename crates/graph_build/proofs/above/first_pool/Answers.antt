use Rattle.std.proofs.Common.{[], arith, rules}
use Rattle.resource_graph.specs.Preorder.{plain}
use Rattle.graph_build.specs.Faults.{IsPoolWithChild}
use Rattle.graph_build.proofs.FindLaws.{first_fact}
use Rattle.graph_build.proofs.OwnLaws.{parent_pool_within}
use Rattle.graph_build.proofs.above.first_pool.Goals as goal

pub returns-clause-first : goal.returns-clause-first
returns-clause-first c =
    first_fact (IsPoolWithChild (plain c.args.vertices.now)) _ _ _ c.first_where.result
    c.first_where.ensures (λ v b low high is. search rules)
    (λ v pool. (omega arith, parent_pool_within [] c.args.vertices.now v pool))
