use Rattle.std.proofs.Common.{◌≡◌, drop}
use Rattle.json.specs.Value.{members_view}
use Rattle.json_whole.specs.Values.{entries_view, members_data, object_view}
use Rattle.json_whole.proofs.looking.in_order.Given as goal

abbrev pub invariant-members : goal.invariant-members
invariant-members l =
    members_data (members_view (drop l.member-index l.members.items)) (entries_view l.map.entries)
    ≡ object_view l.members.items
