use Rattle.std.proofs.Common.{◌≡◌, ◌++◌, drop}
use Rattle.std.specs.Result.{result_map_both}
use Rattle.json_whole.specs.Values.{items_view}
use Rattle.resource_set_r.specs.ReadRows.{rows_from}
use Rattle.resource_set_r.proofs.ranks.rows_from.Given as goal

abbrev pub invariant-rows : goal.invariant-rows
invariant-rows l = result_map_both (λ others. l.rows.items ++ others)
    (λ m. m) (rows_from l.at (items_view (drop l.at l.values))) ≡ rows_from 0 (items_view l.values)
