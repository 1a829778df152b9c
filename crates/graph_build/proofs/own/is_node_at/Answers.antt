use Rattle.std.specs.Prelude.{codes}
use Rattle.graph_build.proofs.OwnLaws.{type_test}
use Rattle.graph_build.proofs.own.is_node_at.Goals as goal

pub returns : goal.returns
returns c = type_test c.args.kinds.now c.args.vertices.now c.args.v (codes "node") c.is_called.result c.requires
    c.is_called.ensures
