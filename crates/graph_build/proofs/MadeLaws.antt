-- The steps in which the vertices of a list are arranged.
use Rattle.std.proofs.Common.{◌≡◌, ◌≢◌, ℕ, ◌+◌, ◌<◌, ◌≤◌, ◌++◌, Bool, false, cond, List, [], ◌∷◌, length, get_or, set}
use Rattle.std.proofs.Common.{take, Option, Some, None, inl, inr, sym, ◌∙◌, ap, subst, arith}
use Rattle.std.specs.Prelude.{slice_get}
use Rattle.std.specs.Option.{option_map, option_map_or}
use Rattle.std.proofs.lemmas.Bool.{cases_lt, cases_Bool}
use Rattle.std.proofs.lemmas.List.{length_push, get_or_push, get_or_append_left, length-set, get_or-set_other}
use Rattle.std.proofs.lemmas.List.Sums.{count_by_more_yes, count_by_more_no}
use Rattle.std.proofs.lemmas.Option.{slice_get-get_or, slice_get_within, get_or_from_slice_get, same_Some}
use Rattle.std.proofs.lemmas.Option.{slice_get_past}
use Rattle.flux_defs.specs.declared.vertices.Vertex.{Vertex}
use Rattle.graph_build.specs.Raw.{is_node_of, some_ranked, nodes_among, rank_of}
use Rattle.graph_build.specs.Orders.{IsOrderOf}
use Rattle.graph_build.specs.Arranged.{IsArrangedList, IsMadeFrom, HasMadeTo}
use Rattle.graph_build.specs.declared.raw.RawVertex.{RawVertex}
use Rattle.resource_graph.proofs.TableLaws.{push_cases}

-- what a pushed list has
pub pushed_last : {X : Type 0} (xs : List X) (x : X) (i : ℕ) → length xs ≡ i → slice_get (xs ++ x ∷ []) i ≡ Some x
pushed_last xs x i e =
    slice_get-get_or (xs ++ x ∷ []) i x (let long : length (xs ++ x ∷ []) ≡ length xs + 1 = length_push xs x in
    omega arith) ∙ ap Some (get_or_push xs x x i e)

pub pushed_before : {X : Type 0} (xs : List X) (x : X) (i : ℕ) → i < length xs →
    slice_get (xs ++ x ∷ []) i ≡ slice_get xs i
pushed_before xs x i lt =
    slice_get-get_or (xs ++ x ∷ []) i x (let long : length (xs ++ x ∷ []) ≡ length xs + 1 = length_push xs x in
    omega arith) ∙
    (ap Some (get_or_append_left xs (x ∷ []) x i lt) ∙ sym (slice_get-get_or xs i x lt))

-- a slot gives what stood in the list
slot_gives : (found : Option RawVertex) (vertex : RawVertex) → option_map (λ r. Some r) found ≡ Some (Some vertex) →
    found ≡ Some vertex
slot_gives None vertex e = absurd (cc)
slot_gives (Some r) vertex e = same_Some _ _ e

pub arranged_more : (raw : List RawVertex) (order : List ℕ) (most i : ℕ) (list grown : List RawVertex)
    (vertex : RawVertex) → slice_get order most ≡ Some i →
    option_map (λ r. Some r) (slice_get raw i) ≡ Some (Some vertex) → grown ≡ list ++ vertex ∷ [] →
    IsArrangedList raw order most list → IsArrangedList raw order (most + 1) grown
arranged_more raw order most i list grown vertex at slot is to = record {
  as_many = ap length is ∙ (length_push list vertex ∙ ap (λ n. n + 1) to.as_many);
  each = λ k j lt e. elim (cases_lt k most) [
    | inl before ↦ ap (λ l. slice_get l k) is
        ∙ (pushed_before list vertex k (let long = to.as_many in omega arith) ∙ to.each k j before e)
    | inr last ↦ (
        let here : most ≡ k = omega arith in
        let same : i ≡ j = same_Some _ _ (sym at ∙ (ap (slice_get order) here ∙ e)) in
        ap (λ l. slice_get l k) is ∙ (pushed_last list vertex k (to.as_many ∙ here)
        ∙ (sym (slot_gives (slice_get raw i) vertex slot) ∙ ap (slice_get raw) same)))
  ];
}

-- the slots of later indices stay
pub slots_stay : (raw : List RawVertex) (order : List ℕ) (count most i : ℕ) (slots : List (Option RawVertex))
    (empty : Option RawVertex) → IsOrderOf count order → slice_get order most ≡ Some i →
    ((k j : ℕ) → most ≤ k → slice_get order k ≡ Some j →
    slice_get slots j ≡ option_map (λ r. Some r) (slice_get raw j)) →
    (k j : ℕ) → most + 1 ≤ k → slice_get order k ≡ Some j →
    slice_get (set slots i empty) j ≡ option_map (λ r. Some r) (slice_get raw j)
slots_stay raw order count most i slots empty indices at left k j le e =
    let differ : j ≢ i = λ same. (let one : most ≡ k = indices.apart most k i at (e ∙ ap Some same) in omega arith) in
    same_elsewhere slots i j empty differ ∙ left k j (omega arith) e
  where
    same_elsewhere : (xs : List (Option RawVertex)) (a b : ℕ) (x : Option RawVertex) → b ≢ a →
        slice_get (set xs a x) b ≡ slice_get xs b
    same_elsewhere xs a b x ne =
        elim (cases_lt b (length xs)) [
          | inl within ↦ slice_get-get_or (set xs a x) b None (let long = length-set xs a x in omega arith)
              ∙ (ap Some (get_or-set_other xs a b x None ne) ∙ sym (slice_get-get_or xs b None within))
          | inr past ↦ slice_get_past (set xs a x) b (let long = length-set xs a x in omega arith)
              ∙ sym (slice_get_past xs b past)
        ]

pub made_more : (kinds : List (List ℕ)) (vertices : List Vertex) (order numbers : List ℕ)
    (kind_numbers : List (Option ℕ)) (most i : ℕ) (made grown : List Vertex) (x y : Vertex) →
    slice_get order most ≡ Some i → slice_get vertices i ≡ Some x → IsMadeFrom numbers kind_numbers x y →
    y.rank ≡ rank_of kinds vertices order most x → grown ≡ made ++ y ∷ [] →
    HasMadeTo kinds vertices order numbers kind_numbers most made →
    HasMadeTo kinds vertices order numbers kind_numbers (most + 1) grown
made_more kinds vertices order numbers kind_numbers most i made grown x y at_i at_x from ranked is to = record {
  as_many = ap length is ∙ (length_push made y ∙ ap (λ n. n + 1) to.as_many);
  each = λ k j u z at_j at_u at_z. elim (push_cases made y z k (ap (λ l. slice_get l k) (sym is) ∙ at_z)) [
    | inl old ↦ to.each k j u z at_j at_u old.1
    | inr new ↦ subst (λ (w : Vertex). IsMadeFrom numbers kind_numbers w z) (same k j u new.0 at_j at_u)
        (subst (λ (w : Vertex). IsMadeFrom numbers kind_numbers x w) (sym new.1) from)
  ];
  ranks = λ k j u z at_j at_u at_z. elim (push_cases made y z k (ap (λ l. slice_get l k) (sym is) ∙ at_z)) [
    | inl old ↦ to.ranks k j u z at_j at_u old.1
    | inr new ↦ ap (λ (w : Vertex). w.rank) new.1
        ∙ (ranked ∙ (ap (rank_of kinds vertices order most) (same k j u new.0 at_j at_u)
        ∙ ap (λ n. rank_of kinds vertices order n u) (sym to.as_many ∙ sym new.0)))
  ];
}
  where
    same : (k j : ℕ) (u : Vertex) → k ≡ length made → slice_get order k ≡ Some j → slice_get vertices j ≡ Some u → x ≡ u
    same k j u here at_j at_u =
        let index : i ≡ j = same_Some _ _ (sym at_i ∙ (ap (slice_get order) (sym to.as_many ∙ sym here) ∙ at_j)) in
        same_Some _ _ (sym at_x ∙ (ap (slice_get vertices) index ∙ at_u))

pub rank_made : (kinds : List (List ℕ)) (vertices : List Vertex) (order : List ℕ) (most : ℕ) (x : Vertex)
    (node ranked : Bool) (nodes : ℕ) (rank : Option ℕ) →
    node ≡ is_node_of kinds x → ranked ≡ some_ranked kinds vertices →
    nodes ≡ nodes_among kinds vertices (take most order) →
    rank ≡ cond node (cond ranked x.rank (Some nodes)) None → rank ≡ rank_of kinds vertices order most x
rank_made kinds vertices order most x node ranked nodes rank a b d e =
    e ∙ (ap (λ t. cond t (cond ranked x.rank (Some nodes)) None) a ∙
    (ap (λ t. cond (is_node_of kinds x) (cond t x.rank (Some nodes)) None) b
    ∙ ap (λ n. cond (is_node_of kinds x) (cond (some_ranked kinds vertices) x.rank (Some n)) None) d))

pub nodes_more : (kinds : List (List ℕ)) (vertices : List Vertex) (order : List ℕ) (most i : ℕ) (x : Vertex)
    (node : Bool) (nodes one : ℕ) → slice_get order most ≡ Some i → slice_get vertices i ≡ Some x →
    node ≡ is_node_of kinds x → nodes ≡ nodes_among kinds vertices (take most order) → one ≡ cond node 1 0 →
    nodes + one ≡ nodes_among kinds vertices (take (most + 1) order)
nodes_more kinds vertices order most i x node nodes one at_i at_x a counted is =
    let p : ℕ → Bool = λ i. option_map_or (is_node_of kinds) (slice_get vertices i) false in
    let lt : most < length order = slice_get_within order most i at_i in
    let here : get_or order most 0 ≡ i = get_or_from_slice_get order most i 0 at_i in
    let test : p (get_or order most 0) ≡ node = ap p here
    ∙ (ap (λ o. option_map_or (is_node_of kinds) o false) at_x ∙ sym a) in
    elim (cases_Bool node) [
      | inl yes' ↦ (let e : nodes_among kinds vertices (take (most + 1) order) ≡ nodes_among kinds vertices
          (take most order) + 1 = count_by_more_yes p order most 0 lt (test ∙ yes') in
          let o : one ≡ 1 = is ∙ ap (λ t. cond t 1 0) yes' in omega arith)
      | inr no' ↦ (let e : nodes_among kinds vertices (take (most + 1) order) ≡ nodes_among kinds vertices
          (take most order) = count_by_more_no p order most 0 lt (test ∙ no') in
          let o : one ≡ 0 = is ∙ ap (λ t. cond t 1 0) no' in omega arith)
    ]
