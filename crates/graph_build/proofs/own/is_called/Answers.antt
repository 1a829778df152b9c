use Rattle.graph_build.proofs.OwnLaws.{called}
use Rattle.graph_build.proofs.own.is_called.Goals as goal

pub returns : goal.returns
returns c = called c.args.kinds.now c.args.kind c.index-kinds-kind.result c.bytes.result.now c.args.name.now
    c.eq.result c.if-kind-kinds.false c.index-kinds-kind.is c.bytes.ensures c.eq.ensures
