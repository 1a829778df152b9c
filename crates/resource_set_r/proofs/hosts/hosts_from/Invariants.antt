use Rattle.std.proofs.Common.{◌≡◌, ◌++◌, drop}
use Rattle.std.specs.Result.{result_map_both}
use Rattle.json_whole.specs.Values.{items_view}
use Rattle.resource_set_r.specs.ReadR.{hosts_from}
use Rattle.resource_set_r.proofs.hosts.hosts_from.Given as goal

abbrev pub invariant-lists : goal.invariant-lists
invariant-lists l = result_map_both (λ others. l.all.items ++ others)
    (λ m. m) (hosts_from l.at (items_view (drop l.at l.values))) ≡ hosts_from 0 (items_view l.values)
