use Rattle.graph_build.proofs.SiblingLaws.{doubles_repeated}
use Rattle.graph_build.proofs.doubles.first_double_sibling.Goals as goal

pub returns-clause-first : goal.returns-clause-first
returns-clause-first c = doubles_repeated c.args.keys.now c.in_ok-found.found c.in_ok-found.ensures.first
