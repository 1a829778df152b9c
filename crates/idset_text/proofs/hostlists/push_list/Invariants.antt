use Rattle.std.proofs.Common.{◌≡◌, ◌++◌, false, length}
use Rattle.std.specs.Option.{option_map}
use Rattle.idset_text.specs.Items.{pieces}
use Rattle.idset_text.specs.Hostlists.{hosts_of_pieces}
use Rattle.idset_text.proofs.hostlists.push_list.Given as goal

-- the hosts so far and those of the rest are those of the whole list
abbrev pub invariant-pieces : goal.invariant-pieces
invariant-pieces l = option_map (λ more. l.hosts.items ++ more) (hosts_of_pieces l.prefix (pieces false l.rest))
    ≡ option_map (λ more. l.fn.hosts.items ++ more) (hosts_of_pieces l.prefix (pieces false l.list))

abbrev pub decreases-pieces : goal.decreases-pieces
decreases-pieces l = length l.rest
