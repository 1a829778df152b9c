use Rattle.std.proofs.Common.{ap, ◌∙◌}
use Rattle.prune_filters.specs.Names.{items_of}
use Rattle.prune_filters.proofs.TextLaws.{items_none, items_cut}
use Rattle.prune_filters.proofs.items.first_item.Goals as goal

pub returns-in-None-clause-items : goal.returns-in-None-clause-items
returns-in-None-clause-items c = items_none c.args.text.now c.in-None.ensures

pub returns-in-Some-clause-items : goal.returns-in-Some-clause-items
returns-in-Some-clause-items c =
    let parts = c.in-Some.ensures in
    ap items_of parts.0 ∙ items_cut c.in-Some.item.now c.in-Some.rest.now parts.1
