use Rattle.graph_build.proofs.above.first_parent_pool.Goals as goal

pub returns-clause-first : goal.returns-clause-first
returns-clause-first c = c.first_pool.ensures.first
