use Rattle.std.proofs.Common.{◌≡◌, ℕ, List, ◌+◌, ◌*◌, ◌≤◌, not, drop}
use Rattle.serde_json.specs.Data.{depth, items_depth, members_depth}
use Rattle.json_whole.specs.Values.{view, items_view, entries_view}
use Rattle.node_constraints.specs.Truth.{each_key, each_true, some_true}
use Rattle.node_constraints.specs.Faults.{keys_fault, items_fault}
use Rattle.node_constraints.specs.Narrowing.{where_true}
use Rattle.node_constraints.proofs.narrowing.+narrowing.Given as goal

abbrev pub decreases-narrow_by_each : goal.decreases-narrow_by_each
decreases-narrow_by_each l = 4 * items_depth (items_view l.values.now) + 1

abbrev pub decreases-narrow_by_none : goal.decreases-narrow_by_none
decreases-narrow_by_none l = 4 * items_depth (items_view l.values.now) + 1

abbrev pub decreases-narrow_by_some : goal.decreases-narrow_by_some
decreases-narrow_by_some l = 4 * items_depth (items_view l.values.now) + 2

abbrev pub decreases-narrow_by_not : goal.decreases-narrow_by_not
decreases-narrow_by_not l = 4 * items_depth (items_view l.values.now) + 2

abbrev pub decreases-narrow_by_list : goal.decreases-narrow_by_list
decreases-narrow_by_list l = 4 * items_depth (items_view l.values.now) + 3

abbrev pub decreases-narrow_by_key : goal.decreases-narrow_by_key
decreases-narrow_by_key l = 4 * depth (view l.value.now) + 1

abbrev pub decreases-narrow : goal.decreases-narrow
decreases-narrow l = 4 * depth (view l.constraint.now)

abbrev pub invariant-narrow_by_each-values : goal.invariant-narrow_by_each-values
invariant-narrow_by_each-values l = record {
  kept : where_true l.graph (λ n. each_true n (items_view (drop l.at l.values))) l.nodes.items
      ≡ where_true l.graph (λ n. each_true n (items_view l.values)) l.initial.nodes.items;
  found : (list : List ℕ) → items_fault list l.at (items_view (drop l.at l.values)) ≡ items_fault list 0
      (items_view l.values);
}

abbrev pub invariant-narrow_by_none-values : goal.invariant-narrow_by_none-values
invariant-narrow_by_none-values l = record {
  kept : where_true l.graph (λ n. not (some_true n (items_view (drop l.at l.values)))) l.nodes.items
      ≡ where_true l.graph (λ n. not (some_true n (items_view l.values))) l.initial.nodes.items;
  found : (list : List ℕ) → items_fault list l.at (items_view (drop l.at l.values)) ≡ items_fault list 0
      (items_view l.values);
}

abbrev pub invariant-narrow-members : goal.invariant-narrow-members
invariant-narrow-members l = record {
  kept : where_true l.graph (λ n. each_key n (entries_view l.key-iterator)) l.nodes.items
      ≡ where_true l.graph (λ n. each_key n (entries_view l.initial.key-iterator)) l.initial.nodes.items;
  found : (path : List ℕ) → keys_fault path (entries_view l.key-iterator) ≡ keys_fault path
      (entries_view l.initial.key-iterator);
  less : members_depth (entries_view l.key-iterator) ≤ members_depth (entries_view l.initial.key-iterator);
}
