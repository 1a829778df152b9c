use Rattle.std.proofs.Common.{◌≡◌, drop, fold}
use Rattle.std.specs.List.{filter_map}
use Rattle.std.specs.Ordering.{nat_cmp}
use Rattle.std.specs.BTreeSet.{insert_key}
use Rattle.resource_set_r.specs.Rows.{id_of_type, rising}
use Rattle.resource_set_r.proofs.rows.ids_among.Given as goal

abbrev pub invariant-vertices : goal.invariant-vertices
invariant-vertices l =
    fold (insert_key nat_cmp) (rising l.ids.items)
    (filter_map (id_of_type l.vertices l.kind) (drop l.vertex-index l.part))
    ≡ rising (filter_map (id_of_type l.vertices l.kind) l.part)
