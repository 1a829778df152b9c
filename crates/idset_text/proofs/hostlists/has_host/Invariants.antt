use Rattle.std.proofs.Common.{drop}
use Rattle.std.specs.Prelude.{Contains}
use Rattle.idset_text.specs.Hostlists.{names_of}
use Rattle.idset_text.proofs.hostlists.has_host.Given as goal

-- the name can only be one of those of the hosts that are left
abbrev pub invariant-hosts : goal.invariant-hosts
invariant-hosts l =
    Contains (names_of l.item-items) l.name → Contains (names_of (drop l.item-index l.item-items)) l.name
