use Rattle.graph_build.specs.Checks.{graph_in}
use Rattle.graph_build.proofs.RowLaws.{parents_clear}
use Rattle.graph_build.proofs.checks.check_sizes.Goals as goal

pub first_parent_pool-requires-clause-parents : goal.first_parent_pool-requires-clause-parents
first_parent_pool-requires-clause-parents c = parents_clear (graph_in c.args.kinds.now c.args.vertices.now)
    c.requires.1.1.0
