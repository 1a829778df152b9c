use Rattle.std.proofs.Common.{◌≡◌, map, drop, fold}
use Rattle.std.specs.Ordering.{nat_cmp}
use Rattle.std.specs.Cmp.Lexicographic.{slice_cmp}
use Rattle.std.specs.BTreeSet.{insert_key}
use Rattle.graph_json.specs.Nodes.{in_order}
use Rattle.json_written.specs.Texts.{readable}
use Rattle.graph_json.proofs.writing.ordered_properties.Given as goal

abbrev pub invariant-texts : goal.invariant-texts
invariant-texts l = fold (insert_key (slice_cmp nat_cmp))
    (map (λ s. s.now) l.set.keys) (map readable (drop l.text-index l.properties)) ≡ in_order (map readable l.properties)
