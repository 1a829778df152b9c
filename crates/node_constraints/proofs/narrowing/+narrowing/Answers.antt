use Rattle.std.proofs.Common.{rules, ◌≡◌, ◌∙◌, sym, ap, suc, ◌++◌, ◌∷◌, ◌+◌, [], max, not, drop, arith, Some}
use Rattle.std.proofs.lemmas.List.{drop_all}
use Rattle.serde_json.specs.Data.{depth, members_depth}
use Rattle.json_whole.specs.Values.{view, items_view, entries_view}
use Rattle.json_fields.specs.Paths.{index}
use Rattle.node_constraints.specs.Truth.{facts_of, key_of, is_true, each_key, key_is_true, each_true, some_true}
use Rattle.node_constraints.specs.Faults.{fault_at, keys_fault, key_fault, items_fault}
use Rattle.node_constraints.specs.Narrowing.{where_true}
use Rattle.node_constraints.proofs.FilterLaws.{filter_all, others_of_others}
use Rattle.node_constraints.proofs.FaultLaws.{later_is, means_same, no_object, no_list, rest_here, member_less, told_at}
use Rattle.node_constraints.proofs.FaultLaws.{none_at}
use Rattle.node_constraints.proofs.StepLaws.{Entry, is_object, object_depth, narrowed_twice, neither_left, none_given}
use Rattle.node_constraints.proofs.StepLaws.{some_given}
use Rattle.node_constraints.proofs.narrowing.+narrowing.Goals as goal

pub narrow-members-preserved : goal.narrow-members-preserved
narrow-members-preserved t c =
    let g = c.args.graph.now in
    let e : Entry = (c.in-Some-2.key.now, c.in-Some-2.value.now) in
    let left = c.next.new.self in
    let steps : c.members.key-iterator ≡ e ∷ left = c.in-Some-2.ensures.steps in
    let old = c.members.nodes.items in
    let text = e.0.now in
    let d = view e.1.now in
    let rest = entries_view left in
    record {
      kept = ap (where_true g (λ n. each_key n rest)) c.in_ok-narrow_by_key.ensures.kept
          ∙ (narrowed_twice g (λ n. key_is_true n (key_of text) d) (λ n. each_key n rest) old
          ∙ (ap (λ es. where_true g (λ n. each_key n (entries_view es)) old) (sym steps) ∙ c.members.invariant.kept));
      found = λ path. sym (later_is (key_fault path text (key_of text) d) (keys_fault path rest)
          (c.in_ok-narrow_by_key.ensures.found path))
          ∙ (ap (λ es. keys_fault path (entries_view es)) (sym steps) ∙ c.members.invariant.found path);
      less =
          let here : members_depth (entries_view c.members.key-iterator) ≡ max (depth d) (members_depth rest) =
          ap (λ es. members_depth (entries_view es)) steps in
          omega (arith, here, c.members.invariant.less);
    }

pub narrow-narrow_by_key-requires : goal.narrow-narrow_by_key-requires
narrow-narrow_by_key-requires t c =
    let e : Entry = (c.in-Some-2.key.now, c.in-Some-2.value.now) in
    let left = c.next.new.self in
    let map = c.in_ok-members.members.entries in
    let all : c.into_iter-key-iterator.result ≡ map = search rules in
    let here : members_depth (entries_view c.members.key-iterator) ≡ max (depth (view e.1.now))
    (members_depth (entries_view left)) = ap (λ es. members_depth (entries_view es)) c.in-Some-2.ensures.steps in
    let first : members_depth (entries_view c.into_iter-key-iterator.result) ≡ members_depth (entries_view map) =
    ap (λ es. members_depth (entries_view es)) all in
    let whole : depth (view c.args.constraint.now) ≡ suc (members_depth (entries_view map)) =
    object_depth (view c.args.constraint.now) (entries_view map)
    (sym c.in-Some.ensures ∙ ap Some (sym c.in_ok-members.ensures)) in
    omega (arith, here, first, whole, c.members.invariant.less)

pub narrow-returns-clause-kept : goal.narrow-returns-clause-kept
narrow-returns-clause-kept t c =
    let g = c.args.graph.now in
    let nodes = c.members.nodes.items in
    let all : c.into_iter-key-iterator.result ≡ c.in_ok-members.members.entries = search rules in
    let whole = is_object (view c.args.constraint.now) (entries_view c.in_ok-members.members.entries)
    (sym c.in-Some.ensures ∙ ap Some (sym c.in_ok-members.ensures)) in
    sym (filter_all nodes)
    ∙ (ap (λ es. where_true g (λ n. each_key n (entries_view es)) nodes) (sym c.in-None.ensures.steps.0)
    ∙ (c.members.invariant.kept
    ∙ (ap (λ es. where_true g (λ n. each_key n (entries_view es)) c.args.nodes.now.items) all
    ∙ ap (λ d. where_true g (λ n. is_true n d) c.args.nodes.now.items) (sym whole))))

pub narrow_by_each-narrow-requires : goal.narrow_by_each-narrow-requires
narrow_by_each-narrow-requires t c =
    let smaller = member_less c.args.values.now c.values.at c.index-values-at.result (omega arith)
    c.index-values-at.is in
    search rules

pub narrow_by_each-values-preserved : goal.narrow_by_each-values-preserved
narrow_by_each-values-preserved t c =
    let g = c.args.graph.now in
    let vs = c.args.values.now in
    let at = c.values.at in
    let x = c.index-values-at.result in
    let old = c.values.nodes.items in
    let rest = items_view (drop (at + 1) vs) in
    let here = rest_here vs at x (omega arith) c.index-values-at.is in
    record {
      kept = ap (where_true g (λ n. each_true n rest)) c.in-Ok.ensures.kept
          ∙ (narrowed_twice g (λ n. is_true n (view x)) (λ n. each_true n rest) old
          ∙ (ap (λ ys. where_true g (λ n. each_true n (items_view ys)) old) (sym here) ∙ c.values.invariant.kept));
      found = λ list. none_at vs at x (omega arith) c.index-values-at.is list (c.values.invariant.found list)
          (c.in-Ok.ensures.found (list ++ index at));
    }

pub narrow_by_each-returns-clause-kept : goal.narrow_by_each-returns-clause-kept
narrow_by_each-returns-clause-kept t c =
    let none : drop c.values.at c.args.values.now ≡ [] = drop_all c.values.at c.args.values.now (omega arith) in
    sym (filter_all c.values.nodes.items)
    ∙ (ap (λ ys. where_true c.args.graph.now (λ n. each_true n (items_view ys)) c.values.nodes.items) (sym none)
    ∙ c.values.invariant.kept)

pub narrow_by_none-narrow-requires : goal.narrow_by_none-narrow-requires
narrow_by_none-narrow-requires t c =
    let smaller = member_less c.args.values.now c.values.at c.index-values-at.result (omega arith)
    c.index-values-at.is in
    search rules

pub narrow_by_none-values-preserved : goal.narrow_by_none-values-preserved
narrow_by_none-values-preserved t c =
    let g = c.args.graph.now in
    let vs = c.args.values.now in
    let at = c.values.at in
    let x = c.index-values-at.result in
    let old = c.values.nodes.items in
    let rest = items_view (drop (at + 1) vs) in
    let here = rest_here vs at x (omega arith) c.index-values-at.is in
    let taken = c.in_ok-take_away-in-Ok.ensures (λ v. is_true (facts_of g v) (view x))
    (c.as_slice.ensures.value ∙ (c.in-Ok.ensures.kept
    ∙ ap (where_true g (λ n. is_true n (view x))) c.in_ok-some.ensures)) in
    record {
      kept = ap (where_true g (λ n. not (some_true n rest))) taken
          ∙ (neither_left g (λ n. is_true n (view x)) (λ n. some_true n rest) old
          ∙ (ap (λ ys. where_true g (λ n. not (some_true n (items_view ys))) old) (sym here)
          ∙ c.values.invariant.kept));
      found = λ list. none_at vs at x (omega arith) c.index-values-at.is list (c.values.invariant.found list)
          (c.in-Ok.ensures.found (list ++ index at));
    }

pub narrow_by_none-returns-clause-kept : goal.narrow_by_none-returns-clause-kept
narrow_by_none-returns-clause-kept t c =
    let none : drop c.values.at c.args.values.now ≡ [] = drop_all c.values.at c.args.values.now (omega arith) in
    sym (filter_all c.values.nodes.items)
    ∙ (ap (λ ys. where_true c.args.graph.now (λ n. not (some_true n (items_view ys))) c.values.nodes.items) (sym none)
    ∙ c.values.invariant.kept)

pub narrow_by_some-returns-then-is_empty-clause-kept : goal.narrow_by_some-returns-then-is_empty-clause-kept
narrow_by_some-returns-then-is_empty-clause-kept t c =
    none_given c.args.graph.now c.args.values.now (sym c.is_empty.ensures ∙ c.if-is_empty.true) c.args.nodes.now.items

pub narrow_by_some-returns-clause-kept : goal.narrow_by_some-returns-clause-kept
narrow_by_some-returns-clause-kept t c =
    let g = c.args.graph.now in
    let vs = c.args.values.now in
    let nodes = c.args.nodes.now.items in
    let others = c.as_slice.ensures.value ∙ (c.in_ok-narrow_by_none.ensures.kept
    ∙ ap (where_true g (λ n. not (some_true n (items_view vs)))) c.in_ok-others.ensures) in
    others_of_others nodes c.as_slice.result.now c.take_away.new.nodes.items
    (λ v. some_true (facts_of g v) (items_view vs)) others c.in_ok-take_away.ensures
    ∙ some_given g vs (sym c.is_empty.ensures ∙ c.if-is_empty.false) nodes

pub narrow-returns-in_default-clause-found : goal.narrow-returns-in_default-clause-found
narrow-returns-in_default-clause-found t c = λ path.
    let d = view c.args.constraint.now in
    means_same path (Some path) (fault_at path d) c.fault_here.result
    (sym (no_object path d (sym c.in_default.ensures))) (c.fault_here.ensures path)

pub narrow_by_key-returns-in_default-clause-found : goal.narrow_by_key-returns-in_default-clause-found
narrow_by_key-returns-in_default-clause-found t c = λ path.
    let key = c.args.key.now in
    let d = view c.args.value.now in
    means_same path (Some path) (key_fault path key (key_of key) d) c.fault_here.result
    (ap (λ k. key_fault path key k d) c.in_default.ensures) (c.fault_here.ensures path)

pub narrow_by_key-returns-in_default-as_array-clause-found : goal.narrow_by_key-returns-in_default-as_array-clause-found
narrow_by_key-returns-in_default-as_array-clause-found t c = λ path.
    let key = c.args.key.now in
    let d = view c.args.value.now in
    let fault = c.fault_here-in_default-as_array in
    means_same path (Some path) (key_fault path key (key_of key) d) fault.result
    (sym (no_list path key c.in-Some.known d (sym c.in_default-as_array.ensures))
    ∙ ap (λ k. key_fault path key k d) c.in-Some.ensures) (fault.ensures path)

pub narrow_by_each-returns-in-Err-clause-found : goal.narrow_by_each-returns-in-Err-clause-found
narrow_by_each-returns-in-Err-clause-found t c = λ list.
    c.in_member.ensures list (items_fault list 0 (items_view c.args.values.now))
    (told_at c.args.values.now c.values.at c.index-values-at.result (omega arith) c.index-values-at.is list
    (c.values.invariant.found list) c.in-Err.fault (c.in-Err.ensures.found (list ++ index c.values.at)))

pub narrow_by_none-returns-in-Err-clause-found : goal.narrow_by_none-returns-in-Err-clause-found
narrow_by_none-returns-in-Err-clause-found t c = λ list.
    c.in_member.ensures list (items_fault list 0 (items_view c.args.values.now))
    (told_at c.args.values.now c.values.at c.index-values-at.result (omega arith) c.index-values-at.is list
    (c.values.invariant.found list) c.in-Err.fault (c.in-Err.ensures.found (list ++ index c.values.at)))
