-- A graph is built from its own vertices, and nothing is wrong with them.
use Rattle.std.proofs.Common.{◌≡◌, ◌≢◌, ℕ, zero, suc, ◌+◌, ◌<◌, ◌≤◌, ◌&&◌, Bool, true, false, cond, List, [], ◌∷◌}
use Rattle.std.proofs.Common.{length, map, get_or, take, Option, Some, None, inl, inr, refl, sym, ◌∙◌, ap, subst, arith}
use Rattle.std.proofs.Common.{option_and_then, MatchOption, true≢false}
use Rattle.std.specs.Prelude.{slice_get, is_some, unwrap_or, codes}
use Rattle.std.specs.Option.{IsSomeAnd, option_map}
use Rattle.std.proofs.lemmas.Bool.{cases_lt, and_from}
use Rattle.std.proofs.lemmas.List.Folds.{list_any_at}
use Rattle.std.proofs.lemmas.Option.{slice_get-get_or, slice_get_within, slice_get_past, slice_get-map}
use Rattle.std.proofs.lemmas.Option.{get_or_from_slice_get, same_Some, unwrap_or-slice_get}
use Rattle.flux_defs.specs.declared.limits.TheConstants.{GREATEST_NUMBER}
use Rattle.flux_defs.specs.declared.vertices.Vertex.{Vertex}
use Rattle.flux_defs.specs.Graph.{ResourceGraph, parent_of, chain, IsNode}
use Rattle.flux_defs.specs.ValidGraph.{IsValidGraph}
use Rattle.graph_laws.proofs.Containment.{ParentsFirst, chain_none}
use Rattle.graph_laws.proofs.Preorder.{parents_first}
use Rattle.resource_graph.specs.NamedGraph.{NamedGraph, IsWhole}
use Rattle.graph_build.specs.Orders.{IsOrderOf}
use Rattle.graph_build.specs.Faults.{IsNodeType, HasDoubleName}
use Rattle.graph_build.specs.Table.{IsFaultless}
use Rattle.graph_build.proofs.Facts.{Facts, faultless}
use Rattle.graph_build.specs.Raw.{IsArranged, IsRenumbered, IsBuiltFrom, shape_of, rank_of, raw_graph, raw_names}
use Rattle.graph_build.specs.Raw.{is_node_of, some_ranked, nodes_among}
use Rattle.graph_build.specs.OwnList.{own_vertex, own_list_from, own_list}
use Rattle.graph_build.specs.declared.raw.RawVertex.{RawVertex}
use Rattle.resource_graph.proofs.ChainLaws.{no_vertex, parent_read}
use Rattle.graph_build.proofs.Facts.{node_test, node_tested}
use Rattle.list_laws.proofs.Values.{value_of, at_value, from_value}
use Rattle.resource_graph.proofs.Queries.{parents_known, chains_short}
use Rattle.graph_build.proofs.OneGraph.{same_items}

-- ---- nothing is wrong with a valid graph

chain_falls : (vertices : List Vertex) → ParentsFirst vertices → (most v : ℕ) →
    length (chain vertices most (Some v)) ≤ suc v
chain_falls vertices first zero v = omega arith
chain_falls vertices first (suc most) v = at (parent_of vertices v) refl (chain_falls vertices first most)
  where
    at : (o : Option ℕ) → parent_of vertices v ≡ o → ((p : ℕ) → length (chain vertices most (Some p)) ≤ suc p) →
        suc (length (chain vertices most o)) ≤ suc v
    at None e rest = let none : length (chain vertices most None) ≤ 0 = chain_none vertices most in omega arith
    at (Some p) e rest = let less : p < v = first v p e in
        let short : length (chain vertices most (Some p)) ≤ suc p = rest p in omega arith

module _ (g : ResourceGraph) (names : List (List ℕ)) (valid : IsValidGraph g names) where
  -- nodes by their rank, and by the name of their type
  node_typed : (v : ℕ) → IsNode g.vertices v → IsNodeType g v
  node_typed v node = let x = value_of (slice_get g.vertices v) (λ x. is_some x.rank ≡ true) node in
      (valid.nodes v x.0 x.1).0 node

  typed_node : (v : ℕ) → IsNodeType g v → IsNode g.vertices v
  typed_node v typed = let x = value_of (slice_get g.vertices v) (λ x. slice_get g.kinds x.kind ≡ Some (codes "node"))
      typed in (valid.nodes v x.0 x.1).1 typed

  second_root : (v u : ℕ) → v < length g.vertices → parent_of g.vertices v ≡ None → u < v → ⊥
  second_root zero u lt none less = omega arith
  second_root (suc v) u lt none less = let next = valid.preorder.next v lt in
      let clash : None ≡ Some next.0 = sym none ∙ next.1 in cc

  double_name : (v : ℕ) → HasDoubleName g names v → ⊥
  double_name v (u, less, same, inl (some, parents)) = let is : v ≡ u = valid.siblings v u some (sym parents)
      (sym same) in omega arith
  double_name v (u, less, same, inr (node_u, node_v)) = let is : v ≡ u = valid.hosts v u (typed_node v node_v)
      (typed_node u node_u) (sym same) in omega arith

  pub valid_facts : Facts g names
  valid_facts = record {
    few = valid.few;
    few_kinds = valid.few_kinds;
    parents = λ v has. let known : has.0 < length g.vertices = parents_known g names valid v has.0 has.1 in
        let past : length g.vertices ≤ has.0 = has.2 in omega arith;
    known = λ v has.
        let x = value_of (slice_get g.vertices v) (λ x. length g.kinds ≤ x.kind) has in
        let known : x.0.kind < length g.kinds = valid.kinds.known v x.0 x.1 in
        let past : length g.kinds ≤ x.0.kind = x.2 in
        omega arith;
    root = (0, (valid.preorder.some, valid.preorder.root));
    alone = λ v has. second_root v has.1.0 has.0.0 has.0.1 has.1.1;
    ends = λ v has.
        let short : length (chain g.vertices (suc (length g.vertices)) (Some v)) ≤ suc v =
        chain_falls g.vertices (parents_first g valid.preorder) (suc (length g.vertices)) v in
        let within : v < length g.vertices = has.0 in
        let long : length g.vertices < length (chain g.vertices (suc (length g.vertices)) (Some v)) = has.1 in
        omega arith;
    shallow = λ v has. let short = chains_short g names valid v has.0 in let deep = has.1 in omega arith;
    unnested = λ v has. valid.unnested v has.0 has.1 has.2 has.3 has.4;
    unreserved = λ v has. let x = value_of (slice_get g.vertices v)
        (λ x. slice_get g.kinds x.kind ≡ Some (codes "slot")) has in valid.unreserved v x.0 x.1 x.2;
    leaves = λ v has. true≢false (sym has.0 ∙ valid.sizes.leaves has.1.0 v has.1.1);
    whole = λ v has.
        let x = value_of (slice_get g.vertices v) (λ x. x.size ≢ 1) has.1 in
        x.2 (valid.sizes.whole v x.0 x.1 (elim has.0 [ inl node ↦ inl (typed_node v node) | inr device ↦ inr device ]));
    most = λ v has.
        let x = value_of (slice_get g.vertices v) (λ x. GREATEST_NUMBER < x.size) has in
        let most : x.0.size ≤ GREATEST_NUMBER = valid.sizes.most v x.0 x.1 in
        let large : GREATEST_NUMBER < x.0.size = x.2 in
        omega arith;
    housed = λ v device. let house = valid.devices.housed v device in (house.0, node_typed house.0 house.1, house.2);
    identified = λ v has.
        let id = valid.devices.named v has.0 in
        let x = value_of (slice_get g.vertices v) (λ x. x.id ≡ Some id.0) id.1 in
        let none : x.0.id ≡ None = at_value (slice_get g.vertices v) (λ x. x.id ≡ None) x.0 x.1 has.1 in
        (let clash : None ≡ Some id.0 = sym none ∙ x.2 in cc);
    ids = λ v (device, (u, less, kind, kind_v, kind_u, id, id_v, id_u, n, node, below_v, below_u)).
        let is : v ≡ u = valid.devices.apart v u n id kind device kind_v kind_u (typed_node n node) below_v below_u
        id_v id_u in
        omega arith;
    names_apart = double_name;
    ranks = λ v has.
        elim has.2 [
          | inl none ↦ (
              let x = value_of (slice_get g.vertices v) (λ x. x.rank ≡ None) none in
              let some : is_some x.0.rank ≡ true = at_value (slice_get g.vertices v) (λ x. is_some x.rank ≡ true) x.0
              x.1 (typed_node v has.1) in
              true≢false (sym some ∙ ap is_some x.2))
          | inr double ↦ (let is : v ≡ double.0 = valid.ranks v double.0 double.3 double.4 double.5 in
              let less : double.0 < v = double.1 in omega arith)
        ];
  }

-- ---- the list's items

own_shapes : (g : NamedGraph) (v : ℕ) (xs : List Vertex) → map shape_of (own_list_from g v xs) ≡ xs
own_shapes g v [] = refl
own_shapes g v (x ∷ xs) = ap (λ ys. x ∷ ys) (own_shapes g (suc v) xs)

own_item : (g : NamedGraph) (v : ℕ) (xs : List Vertex) (k : ℕ) →
    slice_get (own_list_from g v xs) k ≡ option_map (own_vertex g (v + k)) (slice_get xs k)
own_item g v [] k = refl
own_item g v (x ∷ xs) zero = let same : v ≡ v + 0 = omega arith in ap (λ n. Some (own_vertex g n x)) same
own_item g v (x ∷ xs) (suc k) = let same : suc v + k ≡ v + suc k = omega arith in own_item g (suc v) xs k
    ∙ ap (λ n. option_map (own_vertex g n) (slice_get xs k)) same

pub own_at : (g : NamedGraph) (k : ℕ) → slice_get (own_list g) k ≡ option_map (own_vertex g k)
    (slice_get g.resources.vertices k)
own_at g k = let same : 0 + k ≡ k = omega arith in own_item g 0 g.resources.vertices k
    ∙ ap (λ n. option_map (own_vertex g n) (slice_get g.resources.vertices k)) same

module _ (g : NamedGraph) where
  -- by number, a text of each vertex
  own_text : {T : Type 0} (field : RawVertex → T) (list : List T) (d : T) →
      ((k : ℕ) (x : Vertex) → field (own_vertex g k x) ≡ unwrap_or (slice_get list k) d) → (k : ℕ) → k < length list →
      length list ≡ length g.resources.vertices
      → slice_get list k ≡ option_map field (slice_get (own_list g) k)
  own_text field list d reads k lt long =
      let x = get_or g.resources.vertices k no_vertex in
      let here : slice_get g.resources.vertices k ≡ Some x = slice_get-get_or g.resources.vertices k no_vertex
      (omega arith) in
      let item : slice_get (own_list g) k ≡ Some (own_vertex g k x) = own_at g k
      ∙ ap (option_map (own_vertex g k)) here in
      slice_get-get_or list k d lt ∙ (ap Some (sym (unwrap_or-slice_get list k d) ∙ sym (reads k x))
      ∙ ap (option_map field) (sym item))

  own_names : length g.names ≡ length g.resources.vertices → raw_names (own_list g) ≡ g.names
  own_names long = same_items (raw_names (own_list g)) g.names at
    where
      at : (k : ℕ) → slice_get (raw_names (own_list g)) k ≡ slice_get g.names k
      at k = elim (cases_lt k (length g.names)) [
        | inl lt ↦ slice_get-map (λ r. r.name) (own_list g) k
            ∙ sym (own_text (λ r. r.name) g.names [] (λ k x. refl) k lt long)
        | inr le ↦ slice_get-map (λ r. r.name) (own_list g) k
            ∙ (ap (option_map (λ r. r.name)) (own_at g k
            ∙ ap (option_map (own_vertex g k)) (slice_get_past g.resources.vertices k (omega arith)))
            ∙ sym (slice_get_past g.names k le))
      ]

pub own_graph : (g : NamedGraph) → raw_graph g.resources.kinds (own_list g) ≡ g.resources
own_graph g = ap (λ vs. record { kinds = g.resources.kinds; vertices = vs }) (own_shapes g 0 g.resources.vertices)

pub own_faultless : (g : NamedGraph) → IsWhole g →
    IsFaultless (raw_graph g.resources.kinds (own_list g)) (raw_names (own_list g))
own_faultless g whole =
    subst (λ (r : ResourceGraph). IsFaultless r (raw_names (own_list g))) (sym (own_graph g))
    (subst (λ (names : List (List ℕ)). IsFaultless g.resources names) (sym (own_names g whole.valid.named))
    (faultless g.resources g.names (valid_facts g.resources g.names whole.valid)))

-- ---- the list's order is its own

abbrev counting : ℕ → ℕ → List ℕ
counting from zero = []
counting from (suc n) = from ∷ counting (suc from) n

counting-length : (from n : ℕ) → length (counting from n) ≡ n
counting-length from zero = refl
counting-length from (suc n) = ap suc (counting-length (suc from) n)

counting-at : (from n k : ℕ) → k < n → slice_get (counting from n) k ≡ Some (from + k)
counting-at from zero k lt = absurd (omega arith)
counting-at from (suc n) zero lt = let same : from ≡ from + 0 = omega arith in ap Some same
counting-at from (suc n) (suc k) lt = let same : suc from + k ≡ from + suc k = omega arith in
    counting-at (suc from) n k (omega arith) ∙ ap Some same

module _ (n : ℕ) where
  abbrev order : List ℕ
  order = counting 0 n

  order_at : (k : ℕ) → k < n → slice_get order k ≡ Some k
  order_at k lt = let same : 0 + k ≡ k = omega arith in counting-at 0 n k lt ∙ ap Some same

  order_within : (k i : ℕ) → slice_get order k ≡ Some i → k < n
  order_within k i e = let lt : k < length order = slice_get_within order k i e in
      let long : length order ≡ n = counting-length 0 n in omega arith

  order_is : (k i : ℕ) → slice_get order k ≡ Some i → i ≡ k
  order_is k i e = same_Some i k (sym e ∙ order_at k (order_within k i e))

  order_indices : IsOrderOf n order
  order_indices = record {
    as_many = counting-length 0 n;
    known = λ k i e. let lt : k < n = order_within k i e in let is : i ≡ k = order_is k i e in omega arith;
    apart = λ j k i e f. sym (order_is j i e) ∙ order_is k i f;
    each = λ i lt. (i, order_at i lt);
  }

module _ (g : NamedGraph) (whole : IsWhole g) where
  abbrev size : ℕ
  size = length g.resources.vertices

  abbrev kinds : List (List ℕ)
  kinds = g.resources.kinds

  own_parent : (k : ℕ) (x : Vertex) → slice_get g.resources.vertices k ≡ Some x →
      MatchOption x.parent (x.parent ≡ None) (λ i. IsSomeAnd x.parent (λ p. slice_get (order size) p ≡ Some i))
  own_parent k x e = at x.parent refl
    where
      at : (o : Option ℕ) → x.parent ≡ o → MatchOption o (o ≡ None)
          (λ i. IsSomeAnd o (λ p. slice_get (order size) p ≡ Some i))
      at None f = refl
      at (Some p) f =
          let known : p < size = parents_known g.resources g.names whole.valid k p
          (parent_read g.resources.vertices k x e ∙ f) in
          order_at size p known

  -- a node has its rank, and no other vertex has one
  own_rank : (k : ℕ) (x : Vertex) → slice_get g.resources.vertices k ≡ Some x →
      x.rank ≡ rank_of kinds g.resources.vertices (order size) k x
  own_rank k x e = at (is_node_of kinds x) refl
    where
      some_node : is_node_of kinds x ≡ true → some_ranked kinds g.resources.vertices ≡ true
      some_node t =
          let typed : IsNodeType g.resources k = from_value (slice_get g.resources.vertices k)
          (λ y. slice_get kinds y.kind ≡ Some (codes "node")) x e (node_test kinds x t) in
          let ranked : is_some x.rank ≡ true = at_value (slice_get g.resources.vertices k)
          (λ y. is_some y.rank ≡ true) x e ((whole.valid.nodes k x e).1 typed) in
          let lt : k < size = slice_get_within g.resources.vertices k x e in
          list_any_at (λ y. is_node_of kinds y && is_some y.rank) g.resources.vertices k x lt
          (ap (λ y. is_node_of kinds y && is_some y.rank) (get_or_from_slice_get g.resources.vertices k x x e)
          ∙ and_from (is_node_of kinds x) (is_some x.rank) t ranked)

      unranked : (o : Option ℕ) → x.rank ≡ o → is_node_of kinds x ≡ false → o ≡ None
      unranked None f other = refl
      unranked (Some r) f other =
          let node : IsNode g.resources.vertices k = from_value (slice_get g.resources.vertices k)
          (λ y. is_some y.rank ≡ true) x e (ap is_some f) in
          let typed : slice_get kinds x.kind ≡ Some (codes "node") = at_value (slice_get g.resources.vertices k)
          (λ y. slice_get kinds y.kind ≡ Some (codes "node")) x e ((whole.valid.nodes k x e).0 node) in
          absurd (true≢false (sym (node_tested kinds x typed) ∙ other))

      at : (b : Bool) → is_node_of kinds x ≡ b →
          x.rank ≡ cond b (cond (some_ranked kinds g.resources.vertices) x.rank
          (Some (nodes_among kinds g.resources.vertices (take k (order size))))) None
      at true t = ap (λ b. cond b x.rank (Some (nodes_among kinds g.resources.vertices (take k (order size)))))
          (sym (some_node t))
      at false t = unranked x.rank refl t

  same_read : (k i : ℕ) (x y : Vertex) → slice_get (order size) k ≡ Some i →
      slice_get g.resources.vertices i ≡ Some x → slice_get g.resources.vertices k ≡ Some y → x ≡ y
  same_read k i x y at_k at_x at_y = same_Some x y
      (sym at_x ∙ (ap (slice_get g.resources.vertices) (order_is size k i at_k) ∙ at_y))

  own_arranged : IsArranged kinds g.resources.vertices (order size) g.resources
  own_arranged = record {
    indices = order_indices size;
    as_many = refl;
    renumbered = λ k i x y at_k at_x at_y.
        subst (λ (z : Vertex). IsRenumbered kinds g.resources (order size) z y)
        (sym (same_read k i x y at_k at_x at_y))
        (record { kind = refl; size = refl; id = refl; parent = own_parent k y at_y });
    ranks = λ k i x y at_k at_x at_y.
        own_rank k y at_y ∙ ap (rank_of kinds g.resources.vertices (order size) k)
        (sym (same_read k i x y at_k at_x at_y));
  }

  own_keeps : {T : Type 0} (field : RawVertex → T) (list : List T) (d : T) →
      ((k : ℕ) (x : Vertex) → field (own_vertex g k x) ≡ unwrap_or (slice_get list k) d) → length list ≡ size
      → (k : ℕ) → slice_get list k ≡ option_and_then (λ i. option_map field (slice_get (own_list g) i))
      (slice_get (order size) k)
  own_keeps field list d reads long k = elim (cases_lt k size) [
    | inl lt ↦ own_text g field list d reads k (omega arith) long
        ∙ sym (ap (option_and_then (λ i. option_map field (slice_get (own_list g) i))) (order_at size k lt))
    | inr le ↦ (
        let short : length (order size) ≡ size = counting-length 0 size in
        slice_get_past list k (omega arith) ∙ sym
        (ap (option_and_then (λ i. option_map field (slice_get (own_list g) i)))
        (slice_get_past (order size) k (omega arith))))
  ]

pub built_from_itself : (g : NamedGraph) → IsWhole g → IsBuiltFrom g.resources.kinds (own_list g) g
built_from_itself g whole =
    let size = length g.resources.vertices in
    record {
      whole = whole;
      order = order size;
      arranged = subst (λ (vs : List Vertex). IsArranged g.resources.kinds vs (order size) g.resources)
          (sym (own_shapes g 0 g.resources.vertices)) (own_arranged g whole);
      siblings = λ j k u v lt same at_j at_k. let ju : u ≡ j = order_is size j u at_j in
          let kv : v ≡ k = order_is size k v at_k in omega arith;
      texts = record {
        names = own_keeps g whole (λ r. r.name) g.names [] (λ k x. refl) whole.valid.named;
        bases = own_keeps g whole (λ r. r.base) g.bases [] (λ k x. refl) whole.bases;
        units = own_keeps g whole (λ r. r.unit) g.units [] (λ k x. refl) whole.units;
        properties = own_keeps g whole (λ r. r.properties) g.properties [] (λ k x. refl) whole.properties;
      };
    }
