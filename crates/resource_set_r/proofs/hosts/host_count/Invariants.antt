use Rattle.std.proofs.Common.{◌≡◌, ◌+◌, ◌*◌, ◌^◌, ◌≤◌, length, drop}
use Rattle.idset_text.specs.Hostlists.{names_of}
use Rattle.resource_set_r.proofs.hosts.host_count.Given as goal

abbrev pub invariant-hosts : goal.invariant-hosts
invariant-hosts l = record {
  count : l.count + length (names_of (drop l.item-index l.hosts)) ≡ length (names_of l.hosts);
  small : l.count ≤ l.item-index * 2 ^ 32;
}
