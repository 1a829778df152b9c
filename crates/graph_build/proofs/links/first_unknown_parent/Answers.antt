use Rattle.std.proofs.Common.{[]}
use Rattle.graph_build.proofs.CheckLaws.{finds_unknown_parent}
use Rattle.graph_build.proofs.links.first_unknown_parent.Goals as goal

pub returns-clause-first : goal.returns-clause-first
returns-clause-first c = finds_unknown_parent [] c.args.vertices.now c.parent_past.result c.parent_past.ensures
