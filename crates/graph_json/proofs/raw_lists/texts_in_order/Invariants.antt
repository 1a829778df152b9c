use Rattle.std.proofs.Common.{◌≡◌, ◌++◌, length, map, drop, fold}
use Rattle.std.specs.Ordering.{nat_cmp}
use Rattle.std.specs.Cmp.Lexicographic.{slice_cmp}
use Rattle.std.specs.BTreeSet.{insert_key}
use Rattle.json_whole.specs.Values.{items_view}
use Rattle.graph_json.specs.Nodes.{texts_in, in_order}
use Rattle.graph_json.proofs.raw_lists.texts_in_order.Given as goal

abbrev pub invariant-items : goal.invariant-items
invariant-items l = fold (insert_key (slice_cmp nat_cmp)) (map (λ s. s.now) l.set.keys)
    (texts_in (items_view (drop l.item-index l.items))) ≡ in_order (texts_in (items_view l.items))

abbrev pub invariant-texts : goal.invariant-texts
invariant-texts l = l.list.items ++ map (λ s. s.now) l.set.keys ≡ in_order (texts_in (items_view l.items))

abbrev pub decreases-texts : goal.decreases-texts
decreases-texts l = length l.set.keys
