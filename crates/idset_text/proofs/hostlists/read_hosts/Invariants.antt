use Rattle.std.proofs.Common.{◌≡◌, ◌+◌, length}
use Rattle.idset_text.specs.Items.{items_of, with_first}
use Rattle.idset_text.specs.Hostlists.{hosts_of}
use Rattle.idset_text.proofs.hostlists.read_hosts.Given as goal

-- the hosts so far and those of the rest are those of the whole text
abbrev pub invariant-items : goal.invariant-items
invariant-items l = record {
  read : with_first l.hosts.items (hosts_of (items_of l.at l.rest)) ≡ hosts_of (items_of 0 l.text);
  place : l.at + length l.rest ≡ length l.text;
}

abbrev pub decreases-items : goal.decreases-items
decreases-items l = length l.rest
