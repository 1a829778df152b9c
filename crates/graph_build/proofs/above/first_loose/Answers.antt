use Rattle.std.proofs.Common.{arith, rules}
use Rattle.graph_build.specs.Checks.{graph_in}
use Rattle.graph_build.specs.Faults.{IsLoose}
use Rattle.graph_build.proofs.FindLaws.{first_fact}
use Rattle.graph_build.proofs.OwnLaws.{loose_within}
use Rattle.graph_build.proofs.above.first_loose.Goals as goal

pub returns-clause-first : goal.returns-clause-first
returns-clause-first c =
    first_fact (IsLoose (graph_in c.args.kinds.now c.args.vertices.now)) _ _ _ c.first_where.result
    c.first_where.ensures (λ v b low high is. search rules)
    (λ v loose. (omega arith, loose_within c.args.kinds.now c.args.vertices.now v loose))
