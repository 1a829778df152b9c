use Rattle.std.proofs.Common.{◌≡◌, ◌++◌, map, drop}
use Rattle.resource_set_r.specs.Rows.{host_of}
use Rattle.resource_set_r.proofs.rows.hosts_of.Given as goal

abbrev pub invariant-ranks : goal.invariant-ranks
invariant-ranks l = l.hosts.items ++ map (host_of l.graph) (drop l.rank-index l.ranks) ≡ map (host_of l.graph) l.ranks
