use Rattle.std.proofs.Common.{◌≡◌, drop, fold}
use Rattle.std.specs.List.{filter_map}
use Rattle.std.specs.Ordering.{nat_cmp}
use Rattle.std.specs.BTreeSet.{insert_key}
use Rattle.resource_set_r.specs.Rows.{rank_above, rising}
use Rattle.resource_set_r.proofs.rows.ranks_of.Given as goal

abbrev pub invariant-vertices : goal.invariant-vertices
invariant-vertices l = fold (insert_key nat_cmp) (rising l.ranks.items)
    (filter_map (rank_above l.graph.resources.vertices) (drop l.vertex-index l.given))
    ≡ rising (filter_map (rank_above l.graph.resources.vertices) l.given)
