-- A list of vertices with which nothing is wrong gives a valid graph.
use Rattle.std.proofs.Common.{◌≡◌, ◌≢◌, ℕ, zero, suc, ◌+◌, ◌-◌, ◌<◌, ◌≤◌, ◌⊎◌, ◌&&◌, ◌==◌, not, Bool, true, false}
use Rattle.std.proofs.Common.{cond, List, [], length, get_or, take, Option, Some, None, inl, inr, refl, sym, ◌∙◌, ap}
use Rattle.std.proofs.Common.{subst, arith, IsTrue, true≢false, option_and_then}
use Rattle.std.specs.Prelude.{slice_get, is_some, count_by, codes, IsSome}
use Rattle.std.specs.Option.{option_map_or}
use Rattle.std.proofs.lemmas.Bool.{cases_lt, cases_eq, cases_order, cases_Bool, false_from_ne_true, and_parts, and_from}
use Rattle.std.proofs.lemmas.Bool.{eqb-true, eq-eqb}
use Rattle.std.proofs.lemmas.List.{take_all}
use Rattle.std.proofs.lemmas.List.Sums.{count_by_more_yes, count_by_more_no}
use Rattle.std.proofs.lemmas.List.Folds.{Any-from_list_any, list_any_at}
use Rattle.std.proofs.lemmas.Option.{slice_get-get_or, slice_get_within, slice_get_past, get_or_from_slice_get}
use Rattle.std.proofs.lemmas.Option.{same_Some}
use Rattle.flux_defs.specs.declared.limits.TheConstants.{MOST_VERTICES, MOST_TYPES, GREATEST_NUMBER, MOST_LEVELS}
use Rattle.flux_defs.specs.declared.vertices.Vertex.{Vertex}
use Rattle.flux_defs.specs.Graph.{ResourceGraph, parent_of, chain, is_below, HasKind, IsNode, is_pool, is_pool_kind}
use Rattle.flux_defs.specs.ValidGraph.{IsValidGraph, HasType, HasId, HasRank, IsDevice, NumbersKinds, HasFairSizes}
use Rattle.flux_defs.specs.ValidGraph.{NumbersDevices}
use Rattle.resource_graph.specs.Chains.{chain_of}
use Rattle.graph_build.specs.Orders.{IsPreorderOf, IsRooted}
use Rattle.graph_build.specs.Faults.{IsNodeType, HasDoubleName}
use Rattle.graph_build.specs.Raw.{IsArranged, IsRenumbered, KindsApart, is_node_of, some_ranked, nodes_among, rank_of}
use Rattle.list_laws.proofs.Values.{value_of, at_value, from_value}
use Rattle.graph_build.proofs.Facts.{Facts, node_test, node_tested}
use Rattle.graph_build.proofs.ArrangeLaws.{index_of, index_at, index_in, same_index, number_of, both_of, same_below}
use Rattle.graph_build.proofs.ArrangeLaws.{same_chain_length, parent_back, preorder_arranged}

-- a list with which nothing is wrong hangs on one root
pub rooted_of_faultless : (g : ResourceGraph) (names : List (List ℕ)) → Facts g names → IsRooted g.vertices
rooted_of_faultless g names fine = record {
  known = λ v p e. elim (cases_lt p (length g.vertices))
      [ inl less ↦ less | inr past ↦ absurd (fine.parents v (p, e, past)) ];
  ends = λ v lt. elim (cases_lt (length g.vertices) (length (chain g.vertices (suc (length g.vertices)) (Some v))))
      [ inl over ↦ absurd (fine.ends v (lt, over)) | inr le ↦ le ];
  short = λ v lt. elim (cases_lt MOST_LEVELS (length (chain_of g.vertices v)))
      [ inl over ↦ absurd (fine.shallow v (lt, over)) | inr le ↦ le ];
  root = (fine.root.0, fine.root.1.0, fine.root.1.1);
  alone = λ u v u_in v_in at_u at_v.
      elim (cases_order u v) [
        | inl same ↦ same
        | inr differ ↦ elim differ [
          | inl less ↦ absurd (fine.alone v ((v_in, at_v), (u, less, (u_in, at_u))))
          | inr more ↦ absurd (fine.alone u ((u_in, at_u), (v, more, (v_in, at_v))))
        ]
      ];
}

module _ (kinds : List (List ℕ)) (vertices : List Vertex) where
  -- where some node has a rank
  pub ranks_some : some_ranked kinds vertices ≡ true → (v : ℕ)
      × IsNodeType (record { kinds = kinds; vertices = vertices }) v
      × ((rank : ℕ) × HasRank (record { kinds = kinds; vertices = vertices }) rank v)
  ranks_some h =
      let any = Any-from_list_any (λ x. is_node_of kinds x && is_some x.rank) vertices h in
      let at : slice_get vertices any.0 ≡ Some any.1 = slice_get-get_or vertices any.0 any.1 any.2 ∙ ap Some any.3 in
      let parts = and_parts (is_node_of kinds any.1) (is_some any.1.rank) any.4 in (
        any.0,
        from_value (slice_get vertices any.0) (λ x. slice_get kinds x.kind ≡ Some (codes "node")) any.1 at
            (node_test kinds any.1 parts.0),
        ranked any.0 any.1 at parts.1,
      )
    where
      ranked : (i : ℕ) (x : Vertex) → slice_get vertices i ≡ Some x → is_some x.rank ≡ true → (rank : ℕ)
          × HasRank (record { kinds = kinds; vertices = vertices }) rank i
      ranked i x at h = go x.rank refl h
        where
          go : (o : Option ℕ) → x.rank ≡ o → is_some o ≡ true → (rank : ℕ)
              × HasRank (record { kinds = kinds; vertices = vertices }) rank i
          go None e t = absurd (true≢false (sym t))
          go (Some rank) e t = (rank, from_value (slice_get vertices i) (λ z. z.rank ≡ Some rank) x at e)

-- a longer front has as many that pass
counts_grow : (p : ℕ → Bool) (list : List ℕ) (i d : ℕ) → count_by p (take i list) ≤ count_by p (take (i + 1) list)
counts_grow p list i d =
    elim (cases_lt i (length list)) [
      | inl within ↦ elim (cases_Bool (p (get_or list i d))) [
        | inl passes ↦ (let e : count_by p (take (i + 1) list) ≡ count_by p (take i list) + 1 =
            count_by_more_yes p list i d within passes in omega arith)
        | inr fails ↦ (let e : count_by p (take (i + 1) list) ≡ count_by p (take i list) =
            count_by_more_no p list i d within fails in omega arith)
      ]
      | inr past ↦ (let e : count_by p (take i list) ≡ count_by p (take (i + 1) list) =
          ap (count_by p) (take_all i list past ∙ sym (take_all (i + 1) list (omega arith))) in omega arith)
    ]

counts_on : (p : ℕ → Bool) (list : List ℕ) (d a k : ℕ) → count_by p (take a list) ≤ count_by p (take (a + k) list)
counts_on p list d a zero = let e : count_by p (take a list) ≡ count_by p (take (a + 0) list) =
    (let same : a ≡ a + 0 = omega arith in ap (λ n. count_by p (take n list)) same) in omega arith
counts_on p list d a (suc k) =
    let rest : count_by p (take a list) ≤ count_by p (take (a + k) list) = counts_on p list d a k in
    let more : count_by p (take (a + k) list) ≤ count_by p (take (a + k + 1) list) = counts_grow p list (a + k) d in
    let e : count_by p (take (a + k + 1) list) ≡ count_by p (take (a + suc k) list) =
    (let same : a + k + 1 ≡ a + suc k = omega arith in ap (λ n. count_by p (take n list)) same) in
    omega arith

-- one that passes more makes more of them
counts_rise : (p : ℕ → Bool) (list : List ℕ) (a b d : ℕ) → a < b → a < length list → p (get_or list a d) ≡ true →
    count_by p (take a list) < count_by p (take b list)
counts_rise p list a b d lt within here =
    let one : count_by p (take (a + 1) list) ≡ count_by p (take a list) + 1 = count_by_more_yes p list a d within here
    in
    let on : count_by p (take (a + 1) list) ≤ count_by p (take (a + 1 + (b - (a + 1))) list) =
    counts_on p list d (a + 1) (b - (a + 1)) in
    let e : count_by p (take (a + 1 + (b - (a + 1))) list) ≡ count_by p (take b list) =
    (let same : a + 1 + (b - (a + 1)) ≡ b = omega arith in ap (λ n. count_by p (take n list)) same) in
    omega arith

module _ (kinds : List (List ℕ)) (vertices : List Vertex) (names : List (List ℕ)) (apart : KindsApart kinds)
    (fine : Facts (record { kinds = kinds; vertices = vertices }) names)
    (order : List ℕ) (g : ResourceGraph) (arranged : IsArranged kinds vertices order g) where
  raw : ResourceGraph
  raw = record { kinds = kinds; vertices = vertices }

  abbrev index : ℕ → ℕ
  index = index_of kinds vertices order g arranged

  abbrev both : (k : ℕ) → k < length vertices → (x : Vertex) × (y : Vertex) × (slice_get vertices (index k) ≡ Some x)
      × (slice_get g.vertices k ≡ Some y) × IsRenumbered kinds g order x y
  both = both_of kinds vertices order g arranged

  within : (k : ℕ) (y : Vertex) → slice_get g.vertices k ≡ Some y → k < length vertices
  within k y e = let lt : k < length g.vertices = slice_get_within g.vertices k y e in let long = arranged.as_many in
      omega arith

  -- a fact on the built vertex is one on its raw vertex
  type_back : (k : ℕ) (name : List ℕ) → HasType g name k → (k < length vertices)
      × HasType (record { kinds = kinds; vertices = vertices }) name (index k)
  type_back k name h =
      let v = value_of (slice_get g.vertices k) (λ x. slice_get g.kinds x.kind ≡ Some name) h in
      let k_in = within k v.0 v.1 in
      let b = both k k_in in
      let same : v.0 ≡ b.1 = same_Some _ _ (sym v.1 ∙ b.3) in (
        k_in,
        from_value (slice_get vertices (index k)) (λ x. slice_get kinds x.kind ≡ Some name) b.0 b.2
            (sym b.4.kind ∙ (ap (λ (y : Vertex). slice_get g.kinds y.kind) (sym same) ∙ v.2)),
      )

  type_forth : (k : ℕ) (name : List ℕ) → k < length vertices →
      HasType (record { kinds = kinds; vertices = vertices }) name (index k) → HasType g name k
  type_forth k name k_in h =
      let b = both k k_in in
      from_value (slice_get g.vertices k) (λ x. slice_get g.kinds x.kind ≡ Some name) b.1 b.3
      (b.4.kind ∙ at_value (slice_get vertices (index k)) (λ x. slice_get kinds x.kind ≡ Some name) b.0 b.2 h)

  device_back : (k : ℕ) → IsDevice g k → (k < length vertices)
      × IsDevice (record { kinds = kinds; vertices = vertices }) (index k)
  device_back k (inl core) = let t = type_back k (codes "core") core in (t.0, inl t.1)
  device_back k (inr gpu) = let t = type_back k (codes "gpu") gpu in (t.0, inr t.1)

  -- vertices of one kind
  kind_of : (x : Vertex) (i : ℕ) → slice_get vertices i ≡ Some x → x.kind < length kinds
  kind_of x i e = elim (cases_lt x.kind (length kinds)) [
    | inl less ↦ less
    | inr past ↦ absurd
        (fine.known i (from_value (slice_get vertices i) (λ z. length kinds ≤ z.kind) x e past))
  ]

  same_kind : (v u kind : ℕ) → HasKind g.vertices kind v → HasKind g.vertices kind u →
      (v < length vertices) × (u < length vertices)
      × ((k : ℕ) × HasKind vertices k (index v) × HasKind vertices k (index u))
  same_kind v u kind at_v at_u =
      let yv = value_of (slice_get g.vertices v) (λ x. x.kind ≡ kind) at_v in
      let yu = value_of (slice_get g.vertices u) (λ x. x.kind ≡ kind) at_u in
      let v_in = within v yv.0 yv.1 in
      let u_in = within u yu.0 yu.1 in
      let bv = both v v_in in
      let bu = both u u_in in
      let ev : yv.0 ≡ bv.1 = same_Some _ _ (sym yv.1 ∙ bv.3) in
      let eu : yu.0 ≡ bu.1 = same_Some _ _ (sym yu.1 ∙ bu.3) in
      let name_v : slice_get kinds bv.0.kind ≡ slice_get g.kinds kind = sym bv.4.kind
      ∙ (ap (λ (y : Vertex). slice_get g.kinds y.kind) (sym ev) ∙ ap (slice_get g.kinds) yv.2) in
      let name_u : slice_get kinds bu.0.kind ≡ slice_get g.kinds kind = sym bu.4.kind
      ∙ (ap (λ (y : Vertex). slice_get g.kinds y.kind) (sym eu) ∙ ap (slice_get g.kinds) yu.2) in
      let there : IsSome (slice_get kinds bv.0.kind) =
      subst IsSome (sym (slice_get-get_or kinds bv.0.kind [] (kind_of bv.0 (index v) bv.2))) refl in
      let same : bv.0.kind ≡ bu.0.kind = apart bv.0.kind bu.0.kind there (name_v ∙ sym name_u) in (
        v_in,
        u_in,
        (
          bv.0.kind,
          from_value (slice_get vertices (index v)) (λ x. x.kind ≡ bv.0.kind) bv.0 bv.2 refl,
          from_value (slice_get vertices (index u)) (λ x. x.kind ≡ bv.0.kind) bu.0 bu.2 (sym same),
        ),
      )

  below_back : (v u : ℕ) → v < length vertices → u < length vertices → IsTrue (is_below g.vertices v u) →
      IsTrue (is_below vertices (index v) (index u))
  below_back v u v_in u_in h = same_below kinds vertices order g arranged v u v_in u_in ∙ h

  rank_is : (k : ℕ) (k_in : k < length vertices) → (both k k_in).1.rank ≡ rank_of kinds vertices order k (both k k_in).0
  rank_is k k_in = let b = both k k_in in arranged.ranks k (index k) b.0 b.1
      (index_at kinds vertices order g arranged k k_in) b.2 b.3

  node_types : (k : ℕ) → IsNode g.vertices k → HasType g (codes "node") k
  node_types k node =
      let y = value_of (slice_get g.vertices k) (λ x. is_some x.rank ≡ true) node in
      let k_in = within k y.0 y.1 in
      let b = both k k_in in
      let same : y.0 ≡ b.1 = same_Some _ _ (sym y.1 ∙ b.3) in
      let ranked : is_some (rank_of kinds vertices order k b.0) ≡ true = ap is_some (sym (rank_is k k_in))
      ∙ (ap (λ (z : Vertex). is_some z.rank) (sym same) ∙ y.2) in
      elim (cases_Bool (is_node_of kinds b.0)) [
        | inl is ↦ from_value (slice_get g.vertices k) (λ x. slice_get g.kinds x.kind ≡ Some (codes "node")) b.1 b.3
            (b.4.kind ∙ node_test kinds b.0 is)
        | inr not ↦ absurd (true≢false (sym ranked
            ∙ ap (λ t. is_some (cond t (cond (some_ranked kinds vertices) b.0.rank
            (Some (nodes_among kinds vertices (take k order)))) None)) not))
      ]

  node_type_at : (k : ℕ) (k_in : k < length vertices) → HasType g (codes "node") k →
      is_node_of kinds (both k k_in).0 ≡ true
  node_type_at k k_in h =
      let b = both k k_in in
      node_tested kinds b.0 (sym b.4.kind ∙ at_value (slice_get g.vertices k)
      (λ x. slice_get g.kinds x.kind ≡ Some (codes "node")) b.1 b.3 h)

  types_node : (k : ℕ) → HasType g (codes "node") k → IsNode g.vertices k
  types_node k h =
      let back = type_back k (codes "node") h in
      let k_in = back.0 in
      let b = both k k_in in
      let is = node_type_at k k_in h in
      let rank : b.1.rank ≡ cond (some_ranked kinds vertices) b.0.rank
      (Some (nodes_among kinds vertices (take k order))) =
      rank_is k k_in ∙ ap (λ t. cond t (cond (some_ranked kinds vertices) b.0.rank
      (Some (nodes_among kinds vertices (take k order)))) None) is in
      from_value (slice_get g.vertices k) (λ x. is_some x.rank ≡ true) b.1 b.3
      (elim (cases_Bool (some_ranked kinds vertices)) [
        | inl some ↦ ap is_some (rank ∙ ap (λ t. cond t b.0.rank (Some (nodes_among kinds vertices (take k order))))
            some) ∙
            has_rank b.0 b.2 some back.1
        | inr none ↦ ap is_some (rank ∙ ap (λ t. cond t b.0.rank (Some (nodes_among kinds vertices (take k order))))
            none)
      ])
    where
      has_rank : (x : Vertex) → slice_get vertices (index k) ≡ Some x → some_ranked kinds vertices ≡ true →
          IsNodeType (record { kinds = kinds; vertices = vertices }) (index k) → is_some x.rank ≡ true
      has_rank x at some node = go x.rank refl
        where
          go : (o : Option ℕ) → x.rank ≡ o → is_some o ≡ true
          go None e = absurd (fine.ranks (index k) (
            ranks_some kinds vertices some,
            node,
            inl (from_value (slice_get vertices (index k)) (λ z. z.rank ≡ None) x at e),
          ))
          go (Some rank) e = refl

  -- no two nodes have the same rank
  rank_at : (k rank : ℕ) → HasRank g rank k → (k_in : k < length vertices) → (both k k_in).1.rank ≡ Some rank
  rank_at k rank h k_in = at_value (slice_get g.vertices k) (λ x. x.rank ≡ Some rank) (both k k_in).1 (both k k_in).3 h

  rank_within : (k rank : ℕ) → HasRank g rank k → k < length vertices
  rank_within k rank h = let y = value_of (slice_get g.vertices k) (λ x. x.rank ≡ Some rank) h in within k y.0 y.1

  rank_node : (k rank : ℕ) → HasRank g rank k → HasType g (codes "node") k
  rank_node k rank h =
      let y = value_of (slice_get g.vertices k) (λ x. x.rank ≡ Some rank) h in
      node_types k (from_value (slice_get g.vertices k) (λ x. is_some x.rank ≡ true) y.0 y.1 (ap is_some y.2))

  node_rank : (k rank : ℕ) (h : HasRank g rank k) (k_in : k < length vertices) →
      cond (some_ranked kinds vertices) (both k k_in).0.rank (Some (nodes_among kinds vertices (take k order))) ≡ Some
      rank
  node_rank k rank h k_in =
      let b = both k k_in in
      sym (ap (λ t. cond t (cond (some_ranked kinds vertices) b.0.rank
      (Some (nodes_among kinds vertices (take k order)))) None) (node_type_at k k_in (rank_node k rank h))) ∙
      (sym (rank_is k k_in) ∙ rank_at k rank h k_in)

  ranks_clash : (v u rank : ℕ) → HasRank g rank v → HasRank g rank u → v < u → ⊥
  ranks_clash v u rank at_v at_u lt =
      let v_in = rank_within v rank at_v in
      let u_in = rank_within u rank at_u in
      let rv = node_rank v rank at_v v_in in
      let ru = node_rank u rank at_u u_in in
      elim (cases_Bool (some_ranked kinds vertices)) [
        | inl some ↦ (
            let bv = both v v_in in
            let bu = both u u_in in
            let raw_v : HasRank (record { kinds = kinds; vertices = vertices }) rank (index v) =
            from_value (slice_get vertices (index v)) (λ x. x.rank ≡ Some rank) bv.0 bv.2
            (sym (ap (λ t. cond t bv.0.rank (Some (nodes_among kinds vertices (take v order)))) some) ∙ rv) in
            let raw_u : HasRank (record { kinds = kinds; vertices = vertices }) rank (index u) =
            from_value (slice_get vertices (index u)) (λ x. x.rank ≡ Some rank) bu.0 bu.2
            (sym (ap (λ t. cond t bu.0.rank (Some (nodes_among kinds vertices (take u order)))) some) ∙ ru) in
            let node_v = (type_back v (codes "node") (rank_node v rank at_v)).1 in
            let node_u = (type_back u (codes "node") (rank_node u rank at_u)).1 in
            elim (cases_order (index v) (index u)) [
              | inl same ↦ (let e : v ≡ u = same_index kinds vertices order g arranged v u v_in same in omega arith)
              | inr differ ↦ elim differ [
                | inl less ↦ fine.ranks (index u) (
                  ranks_some kinds vertices some,
                  node_u,
                  inr (index v, less, node_v, rank, raw_u, raw_v),
                )
                | inr more ↦ fine.ranks (index v) (
                  ranks_some kinds vertices some,
                  node_v,
                  inr (index u, more, node_u, rank, raw_v, raw_u),
                )
              ]
            ])
        | inr none ↦ (
            let cv : nodes_among kinds vertices (take v order) ≡ rank =
            same_Some _ _ (sym (ap (λ t. cond t (both v v_in).0.rank
            (Some (nodes_among kinds vertices (take v order)))) none) ∙ rv) in
            let cu : nodes_among kinds vertices (take u order) ≡ rank =
            same_Some _ _ (sym (ap (λ t. cond t (both u u_in).0.rank
            (Some (nodes_among kinds vertices (take u order)))) none) ∙ ru) in
            let here : option_map_or (is_node_of kinds) (slice_get vertices (index v)) false ≡ true =
            ap (λ o. option_map_or (is_node_of kinds) o false) (both v v_in).2
            ∙ node_type_at v v_in (rank_node v rank at_v) in
            let rise = counts_rise (λ i. option_map_or (is_node_of kinds) (slice_get vertices i) false) order v u
            (length vertices) lt (let long = arranged.indices.as_many in omega arith) here in
            omega (arith, rise, cv, cu))
      ]

  -- pools
  pool_back : (k : ℕ) → IsTrue (is_pool g.vertices k) → (k < length vertices) × IsTrue (is_pool vertices (index k))
  pool_back k h = go (slice_get g.vertices k) refl h
    where
      go : (o : Option Vertex) → slice_get g.vertices k ≡ o →
          option_map_or (λ x. is_pool_kind g.vertices x.kind) o false ≡ true → (k < length vertices)
          × IsTrue (is_pool vertices (index k))
      go None e t = absurd (true≢false (sym t))
      go (Some y) e t =
          let any = Any-from_list_any (λ z. (z.kind == y.kind) && not (z.size == 1)) g.vertices t in
          let at : slice_get g.vertices any.0 ≡ Some any.1 = slice_get-get_or g.vertices any.0 any.1 any.2
          ∙ ap Some any.3 in
          let parts = and_parts (any.1.kind == y.kind) (not (any.1.size == 1)) any.4 in
          let one : any.1.kind ≡ y.kind = eqb-true any.1.kind y.kind parts.0 in
          let kinds_same = same_kind k any.0 y.kind
          (from_value (slice_get g.vertices k) (λ x. x.kind ≡ y.kind) y e refl)
          (from_value (slice_get g.vertices any.0) (λ x. x.kind ≡ y.kind) any.1 at one) in
          let a_in = kinds_same.1 in
          let ba = both any.0 a_in in
          let bk = both k kinds_same.0 in
          let xk : bk.0.kind ≡ kinds_same.2.0 = at_value (slice_get vertices (index k)) (λ x. x.kind ≡ kinds_same.2.0)
          bk.0 bk.2 kinds_same.2.1 in
          let xa : ba.0.kind ≡ kinds_same.2.0 = at_value (slice_get vertices (index any.0))
          (λ x. x.kind ≡ kinds_same.2.0) ba.0 ba.2 kinds_same.2.2 in
          let size : any.1.size ≡ ba.0.size = ap (λ (z : Vertex). z.size) (same_Some _ _ (sym at ∙ ba.3)) ∙ ba.4.size in
          let odd : not (ba.0.size == 1) ≡ true = ap (λ n. not (n == 1)) (sym size) ∙ parts.1 in
          let read : get_or vertices (index any.0) ba.0 ≡ ba.0 = get_or_from_slice_get vertices (index any.0) ba.0
          ba.0 ba.2 in
          let test : ((get_or vertices (index any.0) ba.0).kind == bk.0.kind) && not
          ((get_or vertices (index any.0) ba.0).size == 1) ≡ true =
          ap (λ (z : Vertex). (z.kind == bk.0.kind) && not (z.size == 1)) read
          ∙ and_from (ba.0.kind == bk.0.kind) (not (ba.0.size == 1)) (eq-eqb ba.0.kind bk.0.kind (xa ∙ sym xk))
          odd in (
            kinds_same.0,
            ap (λ o. option_map_or (λ x. is_pool_kind vertices x.kind) o false) bk.2 ∙
                list_any_at (λ z. (z.kind == bk.0.kind) && not (z.size == 1)) vertices (index any.0) ba.0
                (slice_get_within vertices (index any.0) ba.0 ba.2) test,
          )

  has_parent_in : (k p : ℕ) → parent_of g.vertices k ≡ Some p → k < length vertices
  has_parent_in k p e = elim (cases_lt k (length vertices)) [
    | inl less ↦ less
    | inr past ↦ absurd (let none : parent_of g.vertices k ≡ None = ap (λ o. option_and_then (λ x. x.parent) o)
        (slice_get_past g.vertices k (let long = arranged.as_many in omega arith)) in
        let clash : None ≡ Some p = sym none ∙ e in cc)
  ]

  fair_sizes : HasFairSizes g
  fair_sizes = record {
    leaves = λ v p e. false_from_ne_true (is_pool g.vertices p)
        (λ h. fine.leaves (index p) ((pool_back p h).1, (index v, parent_back kinds vertices order g arranged v p e)));
    whole = λ v y at h.
        let v_in = within v y at in
        let b = both v v_in in
        let size : y.size ≡ b.0.size = ap (λ (z : Vertex). z.size) (same_Some _ _ (sym at ∙ b.3)) ∙ b.4.size in
        let raw_type : IsNodeType (record { kinds = kinds; vertices = vertices }) (index v) ⊎ IsDevice
        (record { kinds = kinds; vertices = vertices }) (index v) =
        elim h [
          | inl node ↦ inl ((type_back v (codes "node") (node_types v node)).1)
          | inr device ↦ inr
              ((device_back v device).1)
        ] in
        size ∙ elim (cases_eq b.0.size 1) [
          | inl one ↦ one
          | inr odd ↦ absurd (fine.whole (index v) (
            raw_type,
            from_value (slice_get vertices (index v)) (λ x. x.size ≢ 1) b.0 b.2 odd,
          ))
        ];
    most = λ v y at.
        let b = both v (within v y at) in
        let size : y.size ≡ b.0.size = ap (λ (z : Vertex). z.size) (same_Some _ _ (sym at ∙ b.3)) ∙ b.4.size in
        elim (cases_lt GREATEST_NUMBER b.0.size) [
          | inl over ↦
              absurd (fine.most (index v) (from_value (slice_get vertices (index v)) (λ x. GREATEST_NUMBER < x.size)
              b.0 b.2 over))
          | inr le ↦ subst (λ (n : ℕ). n ≤ GREATEST_NUMBER) (sym size) le
        ];
  }

  id_back : (k id : ℕ) → HasId g id k → (k_in : k < length vertices) →
      HasId (record { kinds = kinds; vertices = vertices }) id (index k)
  id_back k id h k_in =
      let b = both k k_in in
      from_value (slice_get vertices (index k)) (λ x. x.id ≡ Some id) b.0 b.2
      (sym b.4.id ∙ at_value (slice_get g.vertices k) (λ x. x.id ≡ Some id) b.1 b.3 h)

  node_in : (n : ℕ) → IsNode g.vertices n → n < length vertices
  node_in n node = let y = value_of (slice_get g.vertices n) (λ x. is_some x.rank ≡ true) node in within n y.0 y.1

  -- a device of one kind with another vertex makes that a device
  device_kind : (v u kind : ℕ) → IsDevice g v → HasKind g.vertices kind v → HasKind g.vertices kind u → IsDevice g u
  device_kind v u kind device at_v at_u =
      let yv = value_of (slice_get g.vertices v) (λ x. x.kind ≡ kind) at_v in
      let yu = value_of (slice_get g.vertices u) (λ x. x.kind ≡ kind) at_u in
      let move : (name : List ℕ) → HasType g name v → HasType g name u = λ name h.
      from_value (slice_get g.vertices u) (λ x. slice_get g.kinds x.kind ≡ Some name) yu.0 yu.1
      (ap (slice_get g.kinds) (yu.2 ∙ sym yv.2)
      ∙ at_value (slice_get g.vertices v) (λ x. slice_get g.kinds x.kind ≡ Some name) yv.0 yv.1 h) in
      elim device [ inl core ↦ inl (move (codes "core") core) | inr gpu ↦ inr (move (codes "gpu") gpu) ]

  -- a core or gpu has no id of another one of its kind and node that the list has before it
  no_double : (v u n id kind : ℕ) → IsDevice g u → HasKind g.vertices kind v → HasKind g.vertices kind u →
      IsNode g.vertices n → IsTrue (is_below g.vertices v n) → IsTrue (is_below g.vertices u n) → HasId g id v →
      HasId g id u → index v < index u → ⊥
  no_double v u n id kind device at_v at_u node v_below u_below id_v id_u less =
      let same = same_kind v u kind at_v at_u in
      let n_in = node_in n node in
      fine.ids (index u) (
        (device_back u device).1,
        (
          index v,
          less,
          same.2.0,
          same.2.2,
          same.2.1,
          id,
          id_back u id id_u same.1,
          id_back v id id_v same.0,
          index n,
          (type_back n (codes "node") (node_types n node)).1,
          below_back u n same.1 n_in u_below,
          below_back v n same.0 n_in v_below,
        ),
      )

  numbered_devices : NumbersDevices g
  numbered_devices = record {
    housed = λ v device.
        let d = device_back v device in
        let house = fine.housed (index v) d.1 in
        let node = value_of (slice_get vertices house.0) (λ x. slice_get kinds x.kind ≡ Some (codes "node")) house.1 in
        let n = number_of kinds vertices order g arranged house.0 (slice_get_within vertices house.0 node.0 node.1) in (
          n.0,
          types_node n.0 (type_forth n.0 (codes "node") n.1
              (subst (λ (i : ℕ). IsNodeType (record { kinds = kinds; vertices = vertices }) i) (sym n.2) house.1)),
          sym (same_below kinds vertices order g arranged v n.0 d.0 n.1)
              ∙ subst (λ (i : ℕ). IsTrue (is_below vertices (index v) i)) (sym n.2) house.2,
        );
    named = λ v device.
        let d = device_back v device in
        let b = both v d.0 in
        id_of v b.1 b.3 (λ none. fine.identified (index v)
        (d.1, from_value (slice_get vertices (index v)) (λ x. x.id ≡ None) b.0 b.2 (sym b.4.id ∙ none)));
    apart = λ v u n id kind device at_v at_u node v_below u_below id_v id_u.
        elim (cases_order (index v) (index u)) [
          | inl equal ↦ same_index kinds vertices order g arranged v u (same_kind v u kind at_v at_u).0 equal
          | inr differ ↦ elim differ [
            | inl less ↦ absurd (no_double v u n id kind (device_kind v u kind device at_v at_u) at_v at_u node v_below
                u_below id_v id_u less)
            | inr more ↦ absurd (no_double u v n id kind device at_u at_v node u_below v_below id_u id_v more)
          ]
        ];
  }
    where
      id_of : (v : ℕ) (y : Vertex) → slice_get g.vertices v ≡ Some y → (y.id ≡ None → ⊥) → (id : ℕ) × HasId g id v
      id_of v y at some = go y.id refl
        where
          go : (o : Option ℕ) → y.id ≡ o → (id : ℕ) × HasId g id v
          go None e = absurd (some e)
          go (Some id) e = (id, from_value (slice_get g.vertices v) (λ x. x.id ≡ Some id) y at e)

  module _ (built_names : List (List ℕ)) (long_names : length built_names ≡ length vertices)
      (names_at : (k : ℕ) → k < length vertices → slice_get built_names k ≡ slice_get names (index k)) where
    -- two numbers of one name are one, where a lesser index of that name is a fault
    names_clash : (v u : ℕ) → v < length vertices → u < length vertices →
        slice_get built_names v ≡ slice_get built_names u →
        (index v < index u → HasDoubleName (record { kinds = kinds; vertices = vertices }) names (index u)) →
        (index u < index v → HasDoubleName (record { kinds = kinds; vertices = vertices }) names (index v)) → v ≡ u
    names_clash v u v_in u_in same first second =
        elim (cases_order (index v) (index u)) [
          | inl equal ↦ same_index kinds vertices order g arranged v u v_in equal
          | inr differ ↦ elim differ [
            | inl less ↦ absurd (fine.names_apart (index u) (first less))
            | inr more ↦ absurd (fine.names_apart (index v) (second more))
          ]
        ]

    raw_same : (v u : ℕ) → v < length vertices → u < length vertices →
        slice_get built_names v ≡ slice_get built_names u → slice_get names (index v) ≡ slice_get names (index u)
    raw_same v u v_in u_in same = sym (names_at v v_in) ∙ (same ∙ names_at u u_in)

    some_parent : (o : Option ℕ) → IsSome o → (p : ℕ) × (o ≡ Some p)
    some_parent None h = absurd (true≢false (sym h))
    some_parent (Some p) h = (p, refl)

    siblings_apart : (v u : ℕ) → IsSome (parent_of g.vertices v) → parent_of g.vertices v ≡ parent_of g.vertices u →
        slice_get built_names v ≡ slice_get built_names u → v ≡ u
    siblings_apart v u some parents same =
        let p = some_parent (parent_of g.vertices v) some in
        let v_in = has_parent_in v p.0 p.1 in
        let u_in = has_parent_in u p.0 (sym parents ∙ p.1) in
        let pv : parent_of vertices (index v) ≡ Some (index p.0) = parent_back kinds vertices order g arranged v p.0
        p.1 in
        let pu : parent_of vertices (index u) ≡ Some (index p.0) = parent_back kinds vertices order g arranged u p.0
        (sym parents ∙ p.1) in
        let is = raw_same v u v_in u_in same in
        names_clash v u v_in u_in same
        (λ less. (index v, less, is, inl (subst IsSome (sym pu) refl, pv ∙ sym pu)))
        (λ more. (index u, more, sym is, inl (subst IsSome (sym pv) refl, pu ∙ sym pv)))

    hosts_apart : (v u : ℕ) → IsNode g.vertices v → IsNode g.vertices u →
        slice_get built_names v ≡ slice_get built_names u → v ≡ u
    hosts_apart v u node_v node_u same =
        let v_in = node_in v node_v in
        let u_in = node_in u node_u in
        let is = raw_same v u v_in u_in same in
        let tv = (type_back v (codes "node") (node_types v node_v)).1 in
        let tu = (type_back u (codes "node") (node_types u node_u)).1 in
        names_clash v u v_in u_in same (λ less. (index v, less, is, inr (tv, tu)))
        (λ more. (index u, more, sym is, inr (tu, tv)))

    pub valid_of_faultless : NumbersKinds g → length g.kinds ≤ MOST_TYPES → IsPreorderOf vertices order →
        IsValidGraph g built_names
    valid_of_faultless numbers few_kinds pre =
        let rooted = rooted_of_faultless (record { kinds = kinds; vertices = vertices }) names fine in
        record {
          few = (let few : length vertices ≤ MOST_VERTICES = fine.few in let long = arranged.as_many in omega arith);
          few_kinds = few_kinds;
          kinds = numbers;
          preorder = preorder_arranged kinds vertices order g arranged rooted pre;
          shallow = λ v y at.
              let short : length (chain_of vertices (index v)) ≤ MOST_LEVELS =
              rooted.short (index v) (index_in kinds vertices order g arranged v (within v y at)) in
              subst (λ (n : ℕ). n ≤ MOST_LEVELS) (sym (same_chain_length kinds vertices order g arranged v)) short;
          unnested = λ v u kind at_v at_u below.
              let same = same_kind v u kind at_v at_u in
              fine.unnested (index v) (index u, same.2.0, same.2.1, same.2.2, below_back v u same.0 same.1 below);
          unreserved = λ v y at slot.
              fine.unreserved (index v) ((type_back v (codes "slot")
              (from_value (slice_get g.vertices v) (λ x. slice_get g.kinds x.kind ≡ Some (codes "slot")) y at
              slot)).1);
          sizes = fair_sizes;
          devices = numbered_devices;
          nodes = λ v y at. (node_types v, types_node v);
          ranks = λ v u rank at_v at_u.
              elim (cases_order v u) [
                | inl same ↦ same
                | inr differ ↦ elim differ [
                  | inl less ↦ absurd (ranks_clash v u rank at_v at_u less)
                  | inr more ↦ absurd (ranks_clash u v rank at_u at_v more)
                ]
              ];
          named = long_names ∙ sym arranged.as_many;
          siblings = siblings_apart;
          hosts = hosts_apart;
        }
