use Rattle.std.proofs.Common.{◌≡◌, ◌++◌, drop}
use Rattle.idset_text.specs.Hostlists.{names_of}
use Rattle.graph_from_r.proofs.hosts.names_of.Given as goal

-- what was added, and what is left to add
abbrev pub invariant-hosts : goal.invariant-hosts
invariant-hosts l = l.names.items ++ names_of (drop l.item-index l.hosts) ≡ names_of l.hosts
