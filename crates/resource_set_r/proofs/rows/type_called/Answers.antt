use Rattle.std.proofs.Common.{sym}
use Rattle.resource_set_r.proofs.NodeLaws.{type_called_found}
use Rattle.resource_set_r.proofs.rows.type_called.Goals as goal

pub returns : goal.returns
returns c =
    let g = c.args.graph.now in
    sym (type_called_found
    g.resources g.names c.is_valid.ensures.valid c.args.name.now c.kind_of.result c.kind_of.ensures)
