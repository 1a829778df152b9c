use Rattle.std.proofs.Common.{◌≡◌, ◌≤◌, drop, length, None}
use Rattle.json.specs.Find.{get_member}
use Rattle.json.specs.Value.{members_view}
use Rattle.json_whole.proofs.looking.last_at.Given as goal

abbrev pub invariant-members : goal.invariant-members
invariant-members l = record {
  within : l.left ≤ length l.members.items;
  none : get_member l.key (members_view (drop l.left l.members.items)) ≡ None;
}

abbrev pub decreases-members : goal.decreases-members
decreases-members l = l.left
