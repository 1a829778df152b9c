-- Repeated keys are what two vertices may not share.
use Rattle.std.proofs.Common.{◌≡◌, ℕ, zero, suc, ◌+◌, ◌-◌, ◌<◌, ◌≤◌, ◌⊎◌, nat_eq, not, ◌&&◌, min, false, true≢false}
use Rattle.std.proofs.Common.{List, [], ◌∷◌, ◌++◌, length, map, get_or, Option, Some, None, IsTrue, inl, inr, refl, sym}
use Rattle.std.proofs.Common.{◌∙◌, ap, subst, arith}
use Rattle.std.specs.Prelude.{slice_get, is_some, codes, IsSome}
use Rattle.std.specs.Borrow.{Bor}
use Rattle.std.proofs.lemmas.Bool.{cases_lt, cases_eq, and_from, ne_eqb, not_from_false}
use Rattle.std.proofs.lemmas.List.{length_push, length-map}
use Rattle.std.proofs.lemmas.List.Folds.{list_any_at}
use Rattle.std.proofs.lemmas.Option.{slice_get-get_or, slice_get_within, same_Some, get_or_from_slice_get, none-some}
use Rattle.std.specs.declared.cmp.Ordering.{Ordering}
use Rattle.std.specs.declared.cmp.Ordering.TheVariants.{Equal}
use Rattle.flux_defs.specs.declared.vertices.Vertex.{Vertex}
use Rattle.flux_defs.specs.Graph.{ResourceGraph, parent_of, chain, is_at_or_below, is_below, HasKind}
use Rattle.flux_defs.specs.ValidGraph.{HasType, HasId, HasRank, IsDevice}
use Rattle.graph_laws.proofs.Containment.{at_or_below-opens, up, up-up, on_chain}
use Rattle.graph_laws.proofs.Preorder.{has_parent}
use Rattle.resource_graph.specs.Chains.{chain_of}
use Rattle.graph_build.specs.Faults.{IsNodeType, IsNestedInKind, HasDoubleId, HasDoubleName, HasBadRank, RanksSome}
use Rattle.graph_build.specs.Checks.{graph_in, HasHouses}
use Rattle.resource_graph.specs.Finds.{IsFirstOf}
use Rattle.graph_build.specs.Raw.{shape_of, raw_graph, raw_names, KindsApart, is_node_of, some_ranked}
use Rattle.graph_build.specs.Keys.{IsRepeated, HasEach, IsDeviceKey, IsSiblingKey, IsNodeName, IsNodeRank, IsUnranked}
use Rattle.graph_build.specs.Keys.{lesser}
use Rattle.graph_build.specs.declared.raw.RawVertex.{RawVertex}
use Rattle.graph_build.specs.declared.doubles.DeviceKey.{DeviceKey}
use Rattle.graph_build.specs.declared.doubles.SiblingKey.{SiblingKey}
use Rattle.graph_build.proofs.AboveLaws.{in_chain}
use Rattle.resource_graph.proofs.Finds.{finds_same}
use Rattle.graph_build.proofs.OwnLaws.{type_within, device_within}
use Rattle.resource_graph.proofs.TableLaws.{push_cases}
use Rattle.graph_build.proofs.Facts.{node_tested}
use Rattle.list_laws.proofs.Values.{value_of, at_value, from_value}

-- one index more
pub each_more : {X : Type 0} (Is : ℕ → X → Type 0) (v : ℕ) (list grown : List X) (x : X) → HasEach Is v list →
    Is v x → grown ≡ list ++ x ∷ [] → HasEach Is (v + 1) grown
each_more {X} Is v list grown x to here is = record {
  as_many = ap length is ∙ (length_push list x ∙ ap (λ n. n + 1) to.as_many);
  each = λ u other e. elim (push_cases list x other u (ap (λ l. slice_get l u) (sym is) ∙ e)) [
    | inl old ↦ to.each u other old.1
    | inr new ↦ (let at : v ≡ u = sym to.as_many ∙ sym new.0 in
        subst (λ (w : ℕ). Is w other) at (subst (λ (y : X). Is v y) (sym new.1) here))
  ];
}

-- an index within the list that can't be without a key has one
pub key_at : {K : Type 0} (Is : ℕ → Option K → Type 0) (most : ℕ) (keys : List (Option K)) (v : ℕ) →
    HasEach Is most keys → v < most → (Is v None → ⊥) → (k : K) × (slice_get keys v ≡ Some (Some k)) × Is v (Some k)
key_at {K} Is most keys v has lt some = go (get_or keys v None)
    (slice_get-get_or keys v None (let long = has.as_many in omega arith))
  where
    go : (o : Option K) → slice_get keys v ≡ Some o → (k : K) × (slice_get keys v ≡ Some (Some k)) × Is v (Some k)
    go None e = absurd (some (has.each v None e))
    go (Some k) e = (k, e, has.each v (Some k) e)

-- what the table of houses has at a vertex
pub house_at : (g : ResourceGraph) (most : ℕ) (houses : List (Option ℕ)) (v n : ℕ) → HasHouses g most houses →
    v < most → get_or houses v None ≡ Some n → IsNodeType g n × IsTrue (is_below g.vertices v n)
house_at g most houses v n has lt e = has.each v (Some n)
    (slice_get-get_or houses v None (let long = has.as_many in omega arith) ∙ ap Some e)

-- the first of which either is true is the lesser of the first ones
pub finds_either : (P Q : ℕ → Type 0) (a b : Option ℕ) → IsFirstOf P a → IsFirstOf Q b →
    IsFirstOf (λ v. P v ⊎ Q v) (lesser a b)
finds_either P Q None None none_p none_q = λ v bad. elim bad [ inl p ↦ none_p v p | inr q ↦ none_q v q ]
finds_either P Q None (Some b) none_p first_q =
    (inr first_q.0, (λ u lt bad. elim bad [ inl p ↦ none_p u p | inr q ↦ first_q.1 u lt q ]))
finds_either P Q (Some a) None first_p none_q =
    (inl first_p.0, (λ u lt bad. elim bad [ inl p ↦ first_p.1 u lt p | inr q ↦ none_q u q ]))
finds_either P Q (Some a) (Some b) first_p first_q = (
  elim (cases_lt b a) [
    | inl less ↦ (let is : b ≡ min a b = omega arith in subst (λ (v : ℕ). P v ⊎ Q v) is (inr first_q.0))
    | inr more ↦ (let is : a ≡ min a b = omega arith in subst (λ (v : ℕ). P v ⊎ Q v) is (inl first_p.0))
  ],
  (λ u lt bad. elim bad [ inl p ↦ first_p.1 u (omega arith) p | inr q ↦ first_q.1 u (omega arith) q ]),
)

module _ (kinds : List (List ℕ)) (vertices : List Vertex) where
  in_its_chain : (most i u : ℕ) (o : Option ℕ) → slice_get (chain vertices most o) i ≡ Some u → (i < most)
      × (up vertices i o ≡ Some u)
  in_its_chain zero i u o e = absurd (cc)
  in_its_chain (suc most) i u None e = absurd (cc)
  in_its_chain (suc most) zero u (Some v) e = (omega arith, e)
  in_its_chain (suc most) (suc i) u (Some v) e = let rest = in_its_chain most i u (parent_of vertices v) e in
      (let lt = rest.0 in omega arith, rest.1)

  module _ (apart : KindsApart kinds) (unnested : (v : ℕ) → IsNestedInKind (graph_in kinds vertices) v → ⊥) where
    -- no node is above another node on a chain
    above_node : (v a b i j : ℕ) → i ≤ j → slice_get (chain_of vertices v) i ≡ Some a →
        slice_get (chain_of vertices v) j ≡ Some b → IsNodeType (graph_in kinds vertices) a →
        IsNodeType (graph_in kinds vertices) b → a ≡ b
    above_node v a b i j le at_a at_b node_a node_b = elim (cases_eq a b) [
      | inl same ↦ same
      | inr differ ↦ absurd (
          let to_a = in_its_chain (length vertices) i a (Some v) at_a in
          let to_b = in_its_chain (length vertices) j b (Some v) at_b in
          let split : i + (j - i) ≡ j = omega arith in
          let from_a : up vertices (j - i) (Some a) ≡ Some b = ap (up vertices (j - i)) (sym to_a.1)
          ∙ (up-up vertices i (j - i) (Some v) ∙ (ap (λ k. up vertices k (Some v)) split ∙ to_b.1)) in
          let over : IsTrue (is_at_or_below vertices a b) = at_or_below-opens vertices a b
          ∙ on_chain vertices (j - i) (length vertices) b (Some a) (let lt = to_b.0 in omega arith) from_a in
          let below : IsTrue (is_below vertices a b) = and_from (is_at_or_below vertices a b) (not (nat_eq a b)) over
          (not_from_false (nat_eq a b) (ne_eqb a b differ)) in
          let x = value_of (slice_get vertices a) (λ x. slice_get kinds x.kind ≡ Some (codes "node")) node_a in
          let y = value_of (slice_get vertices b) (λ x. slice_get kinds x.kind ≡ Some (codes "node")) node_b in
          let one : x.0.kind ≡ y.0.kind = apart x.0.kind y.0.kind (subst IsSome (sym x.2) refl) (x.2 ∙ sym y.2) in
          unnested a (
            b,
            x.0.kind,
            from_value (slice_get vertices a) (λ z. z.kind ≡ x.0.kind) x.0 x.1 refl,
            from_value (slice_get vertices b) (λ z. z.kind ≡ x.0.kind) y.0 y.1 (sym one),
            below,
          ))
    ]

    -- a vertex lies in one node
    pub one_house : (v a b : ℕ) → IsNodeType (graph_in kinds vertices) a → IsNodeType (graph_in kinds vertices) b →
        IsTrue (is_below vertices v a) → IsTrue (is_below vertices v b) → a ≡ b
    one_house v a b node_a node_b below_a below_b =
        let at_a = (in_chain vertices v a below_a).0 in
        let at_b = (in_chain vertices v b below_b).0 in
        elim (cases_lt at_b.0 at_a.0) [
          | inl less ↦ sym (above_node v b a at_b.0 at_a.0 (omega arith) at_b.1 at_a.1 node_b node_a)
          | inr more ↦ above_node v a b at_a.0 at_b.0 more at_a.1 at_b.1 node_a node_b
        ]

  -- a vertex of a device's type is a device
  device_kind : (v u kind : ℕ) → IsDevice (graph_in kinds vertices) v → HasKind vertices kind v →
      HasKind vertices kind u → IsDevice (graph_in kinds vertices) u
  device_kind v u kind device at_v at_u =
      let x = value_of (slice_get vertices v) (λ x. x.kind ≡ kind) at_v in
      let y = value_of (slice_get vertices u) (λ x. x.kind ≡ kind) at_u in
      let move : (name : List ℕ) → HasType (graph_in kinds vertices) name v →
      HasType (graph_in kinds vertices) name u = λ name h.
      from_value (slice_get vertices u) (λ z. slice_get kinds z.kind ≡ Some name) y.0 y.1
      (ap (slice_get kinds) (y.2 ∙ sym x.2)
      ∙ at_value (slice_get vertices v) (λ z. slice_get kinds z.kind ≡ Some name) x.0 x.1 h) in
      elim device [ inl core ↦ inl (move (codes "core") core) | inr gpu ↦ inr (move (codes "gpu") gpu) ]

  one_kind : (v a b : ℕ) → HasKind vertices a v → HasKind vertices b v → a ≡ b
  one_kind v a b at_a at_b =
      let x = value_of (slice_get vertices v) (λ x. x.kind ≡ a) at_a in
      sym x.2 ∙ at_value (slice_get vertices v) (λ z. z.kind ≡ b) x.0 x.1 at_b

  one_id : (v a b : ℕ) → HasId (graph_in kinds vertices) a v → HasId (graph_in kinds vertices) b v → a ≡ b
  one_id v a b at_a at_b =
      let x = value_of (slice_get vertices v) (λ x. x.id ≡ Some a) at_a in
      same_Some _ _ (sym x.2 ∙ at_value (slice_get vertices v) (λ z. z.id ≡ Some b) x.0 x.1 at_b)

  one_rank : (v a b : ℕ) → HasRank (graph_in kinds vertices) a v → HasRank (graph_in kinds vertices) b v → a ≡ b
  one_rank v a b at_a at_b =
      let x = value_of (slice_get vertices v) (λ x. x.rank ≡ Some a) at_a in
      same_Some _ _ (sym x.2 ∙ at_value (slice_get vertices v) (λ z. z.rank ≡ Some b) x.0 x.1 at_b)

  -- ---- ids

  module _ (cmp : DeviceKey → DeviceKey → Ordering)
      (to_same : (a b : DeviceKey) → cmp a b ≡ Equal → (a.node ≡ b.node) × (a.kind ≡ b.kind) × (a.id ≡ b.id))
      (from_same : (a b : DeviceKey) → a.node ≡ b.node → a.kind ≡ b.kind → a.id ≡ b.id → cmp a b ≡ Equal)
      (keys : List (Option DeviceKey)) (has : HasEach (IsDeviceKey (graph_in kinds vertices)) (length vertices) keys)
    where
      double_id : (v : ℕ) → IsRepeated cmp keys v → HasDoubleId (graph_in kinds vertices) v
      double_id v bad =
          let u = bad.0 in
          let a = bad.1 in
          let b = bad.2 in
          let at_u = has.each u (Some a) bad.4 in
          let at_v = has.each v (Some b) bad.5 in
          let same = to_same a b bad.6 in (
            at_v.0,
            (
              u,
              bad.3,
              b.kind,
              at_v.3,
              subst (λ (k : ℕ). HasKind vertices k u) same.1 at_u.3,
              b.id,
              at_v.4,
              subst (λ (k : ℕ). HasId (graph_in kinds vertices) k u) same.2 at_u.4,
              b.node,
              at_v.1,
              at_v.2,
              subst (λ (n : ℕ). IsTrue (is_below vertices u n)) same.0 at_u.2,
            ),
          )

      repeated_id : KindsApart kinds → ((v : ℕ) → IsNestedInKind (graph_in kinds vertices) v → ⊥) → (v : ℕ) →
          HasDoubleId (graph_in kinds vertices) v → IsRepeated cmp keys v
      repeated_id apart unnested v bad =
          let with = bad.1 in
          let u = with.0 in
          let device_u = device_kind v u with.2 bad.0 with.3 with.4 in
          let at_v = key_at (IsDeviceKey (graph_in kinds vertices)) (length vertices) keys v has
          (device_within kinds vertices v bad.0) (λ none. none with.8 with.5 bad.0 with.9 with.10 with.6) in
          let at_u = key_at (IsDeviceKey (graph_in kinds vertices)) (length vertices) keys u has
          (device_within kinds vertices u device_u) (λ none. none with.8 with.5 device_u with.9 with.11 with.7) in
          let house_v = one_house apart unnested v at_v.0.node with.8 at_v.2.1 with.9 at_v.2.2 with.10 in
          let house_u = one_house apart unnested u at_u.0.node with.8 at_u.2.1 with.9 at_u.2.2 with.11 in
          let kind_v = one_kind v at_v.0.kind with.2 at_v.2.3 with.3 in
          let kind_u = one_kind u at_u.0.kind with.2 at_u.2.3 with.4 in
          let id_v = one_id v at_v.0.id with.5 at_v.2.4 with.6 in
          let id_u = one_id u at_u.0.id with.5 at_u.2.4 with.7 in (
            u,
            at_u.0,
            at_v.0,
            with.1,
            at_u.1,
            at_v.1,
            from_same at_u.0 at_v.0 (house_u ∙ sym house_v) (kind_u ∙ sym kind_v) (id_u ∙ sym id_v),
          )

      pub finds_double_id : KindsApart kinds → ((v : ℕ) → IsNestedInKind (graph_in kinds vertices) v → ⊥) →
          (found : Option ℕ) → IsFirstOf (IsRepeated cmp keys) found →
          IsFirstOf (HasDoubleId (graph_in kinds vertices)) found
      finds_double_id apart unnested found first = finds_same (IsRepeated cmp keys)
          (HasDoubleId (graph_in kinds vertices)) found double_id (repeated_id apart unnested) first

  -- ---- ranks

  pub no_ranks : some_ranked kinds vertices ≡ false → RanksSome (graph_in kinds vertices) → ⊥
  no_ranks none some =
      let x = value_of (slice_get vertices some.0) (λ x. slice_get kinds x.kind ≡ Some (codes "node")) some.1 in
      let ranked : x.0.rank ≡ Some some.2.0 = at_value (slice_get vertices some.0) (λ z. z.rank ≡ Some some.2.0) x.0
      x.1 some.2.1 in
      let read : get_or vertices some.0 x.0 ≡ x.0 = get_or_from_slice_get vertices some.0 x.0 x.0 x.1 in
      let test = and_from (is_node_of kinds x.0) (is_some x.0.rank) (node_tested kinds x.0 x.2) (ap is_some ranked) in
      true≢false (sym (list_any_at (λ z. is_node_of kinds z && is_some z.rank) vertices some.0 x.0
      (slice_get_within vertices some.0 x.0 x.1)
      (ap (λ (z : Vertex). is_node_of kinds z && is_some z.rank) read ∙ test)) ∙ none)

  module _ (cmp : ℕ → ℕ → Ordering) (to_same : (a b : ℕ) → cmp a b ≡ Equal → a ≡ b)
      (from_same : (a : ℕ) → cmp a a ≡ Equal)
      (keys : List (Option ℕ)) (has : HasEach (IsNodeRank (graph_in kinds vertices)) (length vertices) keys) where
    bad_rank : RanksSome (graph_in kinds vertices) → (v : ℕ) →
        (IsUnranked (graph_in kinds vertices) v) ⊎ (IsRepeated cmp keys v) → HasBadRank (graph_in kinds vertices) v
    bad_rank some v (inl unranked) = (some, unranked.0, inl unranked.1)
    bad_rank some v (inr bad) =
        let at_u = has.each bad.0 (Some bad.1) bad.4 in
        let at_v = has.each v (Some bad.2) bad.5 in (
          some,
          at_v.0,
          inr (
            bad.0,
            bad.3,
            at_u.0,
            bad.2,
            at_v.1,
            subst (λ (r : ℕ). HasRank (graph_in kinds vertices) r bad.0) (to_same bad.1 bad.2 bad.6) at_u.1,
          ),
        )

    repeated_rank : (v : ℕ) → HasBadRank (graph_in kinds vertices) v →
        (IsUnranked (graph_in kinds vertices) v) ⊎ (IsRepeated cmp keys v)
    repeated_rank v bad = elim bad.2 [
      | inl none ↦ inl (bad.1, none)
      | inr with ↦ (
          let u = with.0 in
          let at_v = key_at (IsNodeRank (graph_in kinds vertices)) (length vertices) keys v has
          (type_within kinds vertices v (codes "node") bad.1) (λ none. none with.3 bad.1 with.4) in
          let at_u = key_at (IsNodeRank (graph_in kinds vertices)) (length vertices) keys u has
          (type_within kinds vertices u (codes "node") with.2) (λ none. none with.3 with.2 with.5) in
          let same : at_v.0 ≡ at_u.0 = one_rank v at_v.0 with.3 at_v.2.1 with.4
          ∙ sym (one_rank u at_u.0 with.3 at_u.2.1 with.5) in
          inr (
            u,
            at_u.0,
            at_v.0,
            with.1,
            at_u.1,
            at_v.1,
            subst (λ (r : ℕ). cmp at_u.0 r ≡ Equal) (sym same) (from_same at_u.0),
          ))
    ]

    pub finds_bad_rank : RanksSome (graph_in kinds vertices) → (unranked repeated : Option ℕ) →
        IsFirstOf (IsUnranked (graph_in kinds vertices)) unranked → IsFirstOf (IsRepeated cmp keys) repeated →
        IsFirstOf (HasBadRank (graph_in kinds vertices)) (lesser unranked repeated)
    finds_bad_rank some unranked repeated first second =
        finds_same (λ v. IsUnranked (graph_in kinds vertices) v ⊎ IsRepeated cmp keys v)
        (HasBadRank (graph_in kinds vertices)) (lesser unranked repeated) (bad_rank some) repeated_rank
        (finds_either (IsUnranked (graph_in kinds vertices)) (IsRepeated cmp keys) unranked repeated first second)

-- ---- names

module _ (kinds : List (List ℕ)) (raw : List RawVertex) where
  -- an earlier sibling has its name
  abbrev IsNamedAsSibling : ℕ → Type 0
  IsNamedAsSibling v = (u : ℕ) × (u < v) × (slice_get (raw_names raw) u ≡ slice_get (raw_names raw) v)
      × IsSome (parent_of (map shape_of raw) v) × (parent_of (map shape_of raw) u ≡ parent_of (map shape_of raw) v)

  -- it is a node and an earlier node has its name
  abbrev IsNamedAsNode : ℕ → Type 0
  IsNamedAsNode v = (u : ℕ) × (u < v) × (slice_get (raw_names raw) u ≡ slice_get (raw_names raw) v)
      × IsNodeType (raw_graph kinds raw) u × IsNodeType (raw_graph kinds raw) v

  node_in : (v : ℕ) → IsNodeType (raw_graph kinds raw) v → v < length raw
  node_in v node = let lt = type_within kinds (map shape_of raw) v (codes "node") node in
      let long : length (map shape_of raw) ≡ length raw = simp length-map in omega arith

  parent_in : (v p : ℕ) → parent_of (map shape_of raw) v ≡ Some p → v < length raw
  parent_in v p e = let lt = has_parent (map shape_of raw) v p e in
      let long : length (map shape_of raw) ≡ length raw = simp length-map in omega arith

  module _ (cmp : SiblingKey → SiblingKey → Ordering)
      (to_same : (a b : SiblingKey) → cmp a b ≡ Equal → (a.parent ≡ b.parent) × (a.name.now ≡ b.name.now))
      (from_same : (a b : SiblingKey) → a.parent ≡ b.parent → a.name.now ≡ b.name.now → cmp a b ≡ Equal)
      (keys : List (Option SiblingKey)) (has : HasEach (IsSiblingKey raw) (length raw) keys) where
    sibling_named : (v : ℕ) → IsRepeated cmp keys v → IsNamedAsSibling v
    sibling_named v bad =
        let at_u = has.each bad.0 (Some bad.1) bad.4 in
        let at_v = has.each v (Some bad.2) bad.5 in
        let same = to_same bad.1 bad.2 bad.6 in (
          bad.0,
          bad.3,
          at_u.1 ∙ (ap Some same.1 ∙ sym at_v.1),
          subst IsSome (sym at_v.0) refl,
          at_u.0
              ∙ (ap Some same.0 ∙ sym at_v.0),
        )

    sibling_repeated : (v : ℕ) → IsNamedAsSibling v → IsRepeated cmp keys v
    sibling_repeated v bad = go (parent_of (map shape_of raw) v) refl
      where
        go : (o : Option ℕ) → parent_of (map shape_of raw) v ≡ o → IsRepeated cmp keys v
        go None e = absurd (true≢false (sym (subst IsSome e bad.3)))
        go (Some p) e =
            let at_v = key_at (IsSiblingKey raw) (length raw) keys v has (parent_in v p e)
            (λ none. none-some p (sym none ∙ e)) in
            let at_u = key_at (IsSiblingKey raw) (length raw) keys bad.0 has (parent_in bad.0 p (bad.4 ∙ e))
            (λ none. none-some p (sym none ∙ (bad.4 ∙ e))) in (
              bad.0,
              at_u.0,
              at_v.0,
              bad.1,
              at_u.1,
              at_v.1,
              from_same at_u.0 at_v.0 (same_Some _ _ (sym at_u.2.0 ∙ (bad.4 ∙ at_v.2.0)))
                  (same_Some _ _ (sym at_u.2.1 ∙ (bad.2 ∙ at_v.2.1))),
            )

    pub finds_sibling : (found : Option ℕ) → IsFirstOf (IsRepeated cmp keys) found → IsFirstOf IsNamedAsSibling found
    finds_sibling found first = finds_same (IsRepeated cmp keys) IsNamedAsSibling found sibling_named sibling_repeated
        first

  module _ (cmp : Bor (List ℕ) → Bor (List ℕ) → Ordering)
      (to_same : (a b : Bor (List ℕ)) → cmp a b ≡ Equal → a.now ≡ b.now)
      (from_same : (a b : Bor (List ℕ)) → a.now ≡ b.now → cmp a b ≡ Equal)
      (keys : List (Option (Bor (List ℕ)))) (has : HasEach (IsNodeName kinds raw) (length raw) keys) where
    node_named : (v : ℕ) → IsRepeated cmp keys v → IsNamedAsNode v
    node_named v bad =
        let at_u = has.each bad.0 (Some bad.1) bad.4 in
        let at_v = has.each v (Some bad.2) bad.5 in
        (bad.0, bad.3, at_u.1 ∙ (ap Some (to_same bad.1 bad.2 bad.6) ∙ sym at_v.1), at_u.0, at_v.0)

    node_repeated : (v : ℕ) → IsNamedAsNode v → IsRepeated cmp keys v
    node_repeated v bad =
        let at_v = key_at (IsNodeName kinds raw) (length raw) keys v has (node_in v bad.4) (λ none. none bad.4) in
        let at_u = key_at (IsNodeName kinds raw) (length raw) keys bad.0 has (node_in bad.0 bad.3)
        (λ none. none bad.3) in (
          bad.0,
          at_u.0,
          at_v.0,
          bad.1,
          at_u.1,
          at_v.1,
          from_same at_u.0 at_v.0 (same_Some _ _ (sym at_u.2.1 ∙ (bad.2 ∙ at_v.2.1))),
        )

    pub finds_node : (found : Option ℕ) → IsFirstOf (IsRepeated cmp keys) found → IsFirstOf IsNamedAsNode found
    finds_node found first = finds_same (IsRepeated cmp keys) IsNamedAsNode found node_named node_repeated first

  pub finds_double_name : (sibling node : Option ℕ) → IsFirstOf IsNamedAsSibling sibling →
      IsFirstOf IsNamedAsNode node → IsFirstOf (HasDoubleName (raw_graph kinds raw) (raw_names raw))
      (lesser sibling node)
  finds_double_name sibling node first second =
      finds_same (λ v. IsNamedAsSibling v ⊎ IsNamedAsNode v) (HasDoubleName (raw_graph kinds raw) (raw_names raw))
      (lesser sibling node)
      (λ v bad. elim bad [ inl s ↦ (s.0, s.1, s.2, inl (s.3, s.4)) | inr n ↦ (n.0, n.1, n.2, inr (n.3, n.4)) ])
      (λ v bad. elim bad.3 [
        | inl s ↦ inl (bad.0, bad.1, bad.2, s.0, s.1)
        | inr n ↦ inr (bad.0, bad.1, bad.2, n.0, n.1)
      ])
      (finds_either IsNamedAsSibling IsNamedAsNode sibling node first second)
