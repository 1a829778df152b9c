use Rattle.graph_build.specs.Checks.{graph_in}
use Rattle.graph_build.proofs.RowLaws.{parents_clear}
use Rattle.graph_build.proofs.checks.check_chains.Goals as goal

pub first_endless-requires-clause-known : goal.first_endless-requires-clause-known
first_endless-requires-clause-known c = parents_clear (graph_in c.args.kinds.now c.args.vertices.now) c.requires.1.1.0

pub first_deep-requires-clause-known : goal.first_deep-requires-clause-known
first_deep-requires-clause-known c = parents_clear (graph_in c.args.kinds.now c.args.vertices.now) c.requires.1.1.0

pub first_nested-requires-clause-parents : goal.first_nested-requires-clause-parents
first_nested-requires-clause-parents c = parents_clear (graph_in c.args.kinds.now c.args.vertices.now) c.requires.1.1.0
