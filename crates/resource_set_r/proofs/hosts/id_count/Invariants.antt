use Rattle.std.proofs.Common.{◌≡◌, ◌+◌, ◌*◌, ◌^◌, ◌≤◌, length, drop}
use Rattle.idset_text.specs.Idsets.{ids_of}
use Rattle.resource_set_r.proofs.hosts.id_count.Given as goal

abbrev pub invariant-spans : goal.invariant-spans
invariant-spans l = record {
  count : l.count + length (ids_of (drop l.range-index l.ranges)) ≡ length (ids_of l.ranges);
  small : l.count ≤ l.range-index * 2 ^ 32;
}
