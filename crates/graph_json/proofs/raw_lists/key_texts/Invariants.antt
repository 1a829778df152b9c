use Rattle.std.proofs.Common.{◌≡◌, ◌++◌, map}
use Rattle.std.specs.BTreeMap.{keys}
use Rattle.graph_json.proofs.raw_lists.key_texts.Given as goal

abbrev pub invariant-keys : goal.invariant-keys
invariant-keys l = (goal.iterator-keys).can_next l.key-iterator × ((goal.iterator-keys).is_finite l.key-iterator
    × (l.list.items ++ map (λ k. k.now) l.key-iterator ≡ map (λ k. k.now) (keys l.map)))
