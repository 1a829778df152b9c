use Rattle.std.proofs.Common.{◌∙◌, ap}
use Rattle.json_whole.specs.Values.{entries_view}
use Rattle.json_whole.proofs.Looks.{entries_view-insert}
use Rattle.json_whole.proofs.looking.put_entry.Goals as goal

pub returns : goal.returns
returns c =
    ap entries_view c.in_ok-insert.ensures.entries ∙ entries_view-insert c.args.map.now.entries c.args.key c.args.value
