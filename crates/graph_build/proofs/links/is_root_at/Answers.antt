use Rattle.graph_build.proofs.CheckLaws.{root_test}
use Rattle.graph_build.proofs.links.is_root_at.Goals as goal

pub returns : goal.returns
returns c = root_test c.args.vertices.now c.args.v c.requires c.is_none.result c.is_none.ensures
