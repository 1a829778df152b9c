-- A list of vertices has at most one graph.
use Rattle.std.proofs.Common.{◌≡◌, ◌≢◌, ℕ, zero, suc, ◌<◌, ◌≤◌, ◌⊎◌, List, [], ◌∷◌, length, get_or, Option, Some, None}
use Rattle.std.proofs.Common.{inl, inr, refl, sym, ◌∙◌, ap, ap₂, subst, arith, MatchOption, IsTrue}
use Rattle.std.specs.Prelude.{slice_get, is_some, IsSome, map}
use Rattle.std.specs.Option.{IsSomeAnd, option_map}
use Rattle.std.proofs.lemmas.Bool.{cases_lt, cases_order}
use Rattle.std.proofs.lemmas.Option.{slice_get-get_or, slice_get_within, slice_get_past, same_Some}
use Rattle.flux_defs.specs.declared.vertices.Vertex.{Vertex}
use Rattle.flux_defs.specs.Graph.{ResourceGraph, parent_of, is_at_or_below}
use Rattle.flux_defs.specs.ValidGraph.{StandsInPreorder, NumbersKinds}
use Rattle.graph_laws.proofs.Containment.{below_parent, below_from, below_le, parent_below}
use Rattle.graph_laws.proofs.Preorder.{parents_first, between_below}
use Rattle.resource_graph.specs.NamedGraph.{NamedGraph}
use Rattle.graph_build.specs.Raw.{IsArranged, IsRenumbered, AreSiblingsInOrder, AreTextsOf, IsBuiltFrom, shape_of}
use Rattle.graph_build.specs.Raw.{rank_of}
use Rattle.graph_build.specs.declared.raw.RawVertex.{RawVertex}
use Rattle.graph_build.proofs.ArrangeLaws.{index_at, index_in, index_past, same_index, number_of, parent_back}
use Rattle.graph_build.proofs.ArrangeLaws.{parent_forth, parent_index}
use Rattle.resource_graph.proofs.ChainLaws.{no_vertex}
use Rattle.list_laws.proofs.Values.{value_of, at_value}

-- lists with the same items
pub same_items : {A : Type 0} (xs ys : List A) → ((k : ℕ) → slice_get xs k ≡ slice_get ys k) → xs ≡ ys
same_items [] [] e = refl
same_items [] (y ∷ ys) e = absurd (let h : None ≡ Some y = e 0 in cc)
same_items (x ∷ xs) [] e = absurd (let h : Some x ≡ None = e 0 in cc)
same_items (x ∷ xs) (y ∷ ys) e = ap₂ (λ z zs. z ∷ zs) (same_Some x y (e 0)) (same_items xs ys (λ k. e (suc k)))

-- ---- the order

-- Two orders that agree before k: what the first has at k stands at k in the other one too, or its parent is no
-- deeper than that of what stands there, and it is no
-- earlier sibling of that.
module _ (kinds : List (List ℕ)) (vertices : List Vertex) (order : List ℕ) (g : ResourceGraph)
    (ag : IsArranged kinds vertices order g) (other : List ℕ) (h : ResourceGraph)
    (ah : IsArranged kinds vertices other h) (sh : StandsInPreorder h) (kh : AreSiblingsInOrder other h) (k : ℕ)
    (within : k < length vertices)
    (same : (j : ℕ) → j < k → get_or order j (length vertices) ≡ get_or other j (length vertices)) (p q : ℕ)
    (parent_g : parent_of g.vertices k ≡ Some p) (p_lt : p < k)
    (parent_h : parent_of h.vertices k ≡ Some q) where
  abbrev here : ℕ
  here = get_or order k (length vertices)

  abbrev there : ℕ
  there = get_or other k (length vertices)

  not_before : (m : ℕ) → m < k → get_or other m (length vertices) ≡ here → ⊥
  not_before m lt e = let is : m ≡ k = same_index kinds vertices order g ag m k (omega arith) (same m lt ∙ e) in
      omega arith

  moved_parent : (m : ℕ) → get_or other m (length vertices) ≡ here → parent_of h.vertices m ≡ Some p
  moved_parent m e =
      let raw : parent_of vertices (get_or other m (length vertices)) ≡ Some (get_or other p (length vertices)) =
      ap (parent_of vertices) e ∙ (parent_back kinds vertices order g ag k p parent_g ∙ ap Some (same p p_lt)) in
      let found = parent_forth kinds vertices other h ah m (get_or other p (length vertices))
      (index_in kinds vertices other h ah p (omega arith)) raw in
      let is : found.0 ≡ p = same_index kinds vertices other h ah found.0 p found.3 found.2 in
      found.1 ∙ ap Some is

  later : (m : ℕ) → m < length vertices → k < m → get_or other m (length vertices) ≡ here → (p ≤ q)
      × (p ≡ q → there < here)
  later m m_in lt e =
      let long : length h.vertices ≡ length vertices = ah.as_many in
      let up : parent_of h.vertices m ≡ Some p = moved_parent m e in
      let first = parents_first h sh in
      let below_k : IsTrue (is_at_or_below h.vertices k p) = between_below h sh p k m (omega arith) (omega arith)
      (omega arith) (below_parent h.vertices first m p (omega arith) up) in
      let differ : k ≢ p = λ e. omega arith in
      let above = parent_below h.vertices first k p (omega arith) (below_from h.vertices first k p differ below_k) in
      let is : above.0 ≡ q = same_Some _ _ (sym above.1 ∙ parent_h) in
      let le : p ≤ above.0 = below_le h.vertices first above.0 p above.2 in (
        omega arith,
        λ pq.
            let less : there < get_or other m (length vertices) =
            kh k m there (get_or other m (length vertices)) lt (parent_h ∙ (ap Some (sym pq) ∙ sym up))
            (index_at kinds vertices other h ah k within) (index_at kinds vertices other h ah m m_in) in
            omega arith,
      )

  half : (here ≡ there) ⊎ ((p ≤ q) × (p ≡ q → there < here))
  half =
      let found = number_of kinds vertices other h ah here (index_in kinds vertices order g ag k within) in
      elim (cases_lt found.0 k) [
        | inl before ↦ absurd (not_before found.0 before found.2)
        | inr le ↦ elim (cases_lt k found.0) [
          | inl after ↦ inr (later found.0 found.1 after found.2)
          | inr at ↦ inl (let is : found.0 ≡ k = omega arith in sym found.2
              ∙ ap (λ m. get_or other m (length vertices)) is)
        ]
      ]

no_parent : {A : Type 0} (o : Option A) (x : A) → o ≡ None → o ≡ Some x → ⊥
no_parent o x e f = let clash : None ≡ Some x = sym e ∙ f in cc

module _ (kinds : List (List ℕ)) (vertices : List Vertex) (order : List ℕ) (g : ResourceGraph)
    (ag : IsArranged kinds vertices order g) (sg : StandsInPreorder g) (kg : AreSiblingsInOrder order g)
    (other : List ℕ) (h : ResourceGraph) (ah : IsArranged kinds vertices other h) (sh : StandsInPreorder h)
    (kh : AreSiblingsInOrder other h) where
  -- the root stands first
  first_same : 0 < length vertices → get_or order 0 (length vertices) ≡ get_or other 0 (length vertices)
  first_same within = let found = number_of kinds vertices other h ah (get_or order 0 (length vertices))
      (index_in kinds vertices order g ag 0 within) in at found.0 found.1 found.2
    where
      root : parent_of vertices (get_or order 0 (length vertices)) ≡ None
      root = parent_index kinds vertices order g ag 0 ∙ ap (option_map (λ v. get_or order v (length vertices))) sg.root

      at : (m : ℕ) → m < length vertices → get_or other m (length vertices) ≡ get_or order 0 (length vertices) →
          get_or order 0 (length vertices) ≡ get_or other 0 (length vertices)
      at zero m_in e = sym e
      at (suc m) m_in e =
          let next = sh.next m (let long : length h.vertices ≡ length vertices = ah.as_many in omega arith) in
          absurd (no_parent (parent_of vertices (get_or other (suc m) (length vertices)))
          (get_or other next.0 (length vertices)) (ap (parent_of vertices) e ∙ root)
          (parent_back kinds vertices other h ah (suc m) next.0 next.1))

  -- where they agree before an index they agree there
  next_same : (k : ℕ) → suc k < length vertices →
      ((j : ℕ) → j < suc k → get_or order j (length vertices) ≡ get_or other j (length vertices)) →
      get_or order (suc k) (length vertices) ≡ get_or other (suc k) (length vertices)
  next_same k within same =
      let long_g : length g.vertices ≡ length vertices = ag.as_many in
      let long_h : length h.vertices ≡ length vertices = ah.as_many in
      let ng = sg.next k (omega arith) in
      let nh = sh.next k (omega arith) in
      let lg : ng.0 < suc k = parents_first g sg (suc k) ng.0 ng.1 in
      let lh : nh.0 < suc k = parents_first h sh (suc k) nh.0 nh.1 in
      by ng.0 nh.0 (half kinds vertices order g ag other h ah sh kh (suc k) within same ng.0 nh.0 ng.1 lg nh.1)
      (half kinds vertices other h ah order g ag sg kg (suc k) within (λ j lt. sym (same j lt)) nh.0 ng.0 nh.1 lh ng.1)
    where
      by : (p q : ℕ) → (get_or order (suc k) (length vertices) ≡ get_or other (suc k) (length vertices)) ⊎
          ((p ≤ q) × (p ≡ q → get_or other (suc k) (length vertices) < get_or order (suc k) (length vertices)))
          → (get_or other (suc k) (length vertices) ≡ get_or order (suc k) (length vertices)) ⊎
          ((q ≤ p) × (q ≡ p → get_or order (suc k) (length vertices) < get_or other (suc k) (length vertices)))
          → get_or order (suc k) (length vertices) ≡ get_or other (suc k) (length vertices)
      by p q (inl e) y = e
      by p q (inr x) (inl e) = sym e
      by p q (inr x) (inr y) =
          let le : p ≤ q = x.0 in
          let ge : q ≤ p = y.0 in
          let is : p ≡ q = omega arith in
          let one : get_or other (suc k) (length vertices) < get_or order (suc k) (length vertices) = x.1 is in
          let two : get_or order (suc k) (length vertices) < get_or other (suc k) (length vertices) = y.1 (sym is) in
          absurd (omega arith)

  same_to : (k j : ℕ) → j < k → get_or order j (length vertices) ≡ get_or other j (length vertices)
  same_to zero j lt = absurd (omega arith)
  same_to (suc k) j lt =
      elim (cases_lt j k) [
        | inl before ↦ same_to k j before
        | inr last ↦ (let is : k ≡ j = omega arith in
            subst (λ (i : ℕ). get_or order i (length vertices) ≡ get_or other i (length vertices)) is
            (at_last k (same_to k)))
      ]
    where
      past : (k : ℕ) → length vertices ≤ k → get_or order k (length vertices) ≡ get_or other k (length vertices)
      past k le = index_past kinds vertices order g ag k le ∙ sym (index_past kinds vertices other h ah k le)

      at_last : (k : ℕ) → ((j : ℕ) → j < k → get_or order j (length vertices) ≡ get_or other j (length vertices)) →
          get_or order k (length vertices) ≡ get_or other k (length vertices)
      at_last zero same = elim (cases_lt 0 (length vertices)) [ inl within ↦ first_same within | inr le ↦ past 0 le ]
      at_last (suc k) same = elim (cases_lt (suc k) (length vertices))
          [ inl within ↦ next_same k within same | inr le ↦ past (suc k) le ]

  pub same_indices : (k : ℕ) → get_or order k (length vertices) ≡ get_or other k (length vertices)
  same_indices k = same_to (suc k) k (omega arith)

  pub same_order : order ≡ other
  same_order = same_items order other at
    where
      at : (k : ℕ) → slice_get order k ≡ slice_get other k
      at k =
          let long_a : length order ≡ length vertices = ag.indices.as_many in
          let long_b : length other ≡ length vertices = ah.indices.as_many in
          elim (cases_lt k (length vertices)) [
            | inl within ↦ index_at kinds vertices order g ag k within
                ∙ (ap Some (same_indices k) ∙ sym (index_at kinds vertices other h ah k within))
            | inr le ↦ slice_get_past order k (omega arith) ∙ sym (slice_get_past other k (omega arith))
          ]

-- ---- the types and the vertices

some_within : {A : Type 0} (xs : List A) (k : ℕ) (d : A) → k < length xs → IsSome (slice_get xs k)
some_within xs k d lt = ap is_some (slice_get-get_or xs k d lt)

-- a vertex's kind, by its number
abbrev kind_at : ResourceGraph → ℕ → ℕ
kind_at g v = (get_or g.vertices v no_vertex).kind

module _ (kinds : List (List ℕ)) (vertices : List Vertex) (order : List ℕ) (g : ResourceGraph)
    (ag : IsArranged kinds vertices order g) (v : ℕ) (within : v < length vertices) where
  abbrev raw : Vertex
  raw = get_or vertices (get_or order v (length vertices)) no_vertex

  raw_at : slice_get vertices (get_or order v (length vertices)) ≡ Some raw
  raw_at = slice_get-get_or vertices (get_or order v (length vertices)) no_vertex
      (index_in kinds vertices order g ag v within)

  made_at : slice_get g.vertices v ≡ Some (get_or g.vertices v no_vertex)
  made_at = slice_get-get_or g.vertices v no_vertex
      (let long : length g.vertices ≡ length vertices = ag.as_many in omega arith)

  renumbered_at : IsRenumbered kinds g order raw (get_or g.vertices v no_vertex)
  renumbered_at = ag.renumbered v (get_or order v (length vertices)) raw (get_or g.vertices v no_vertex)
      (index_at kinds vertices order g ag v within) raw_at made_at

  ranked_at : (get_or g.vertices v no_vertex).rank ≡ rank_of kinds vertices order v raw
  ranked_at = ag.ranks v (get_or order v (length vertices)) raw (get_or g.vertices v no_vertex)
      (index_at kinds vertices order g ag v within) raw_at made_at

module _ (kinds : List (List ℕ)) (vertices : List Vertex) (order : List ℕ) (g : ResourceGraph)
    (ag : IsArranged kinds vertices order g) (h : ResourceGraph) (ah : IsArranged kinds vertices order h) where
  -- a vertex's type is called the same
  same_called : (v : ℕ) → v < length vertices → slice_get g.kinds (kind_at g v) ≡ slice_get h.kinds (kind_at h v)
  same_called v lt = (renumbered_at kinds vertices order g ag v lt).kind
      ∙ sym (renumbered_at kinds vertices order h ah v lt).kind

module _ (kinds : List (List ℕ)) (vertices : List Vertex) (order : List ℕ) (g : ResourceGraph)
    (ag : IsArranged kinds vertices order g) (h : ResourceGraph) (ah : IsArranged kinds vertices order h)
    (nh : NumbersKinds h) where
  -- where the vertices before have the same kinds, no vertex has a greater kind in the second graph
  not_greater : (v : ℕ) → v < length vertices → ((u : ℕ) → u < v → kind_at g u ≡ kind_at h u) →
      kind_at g v < kind_at h v → ⊥
  not_greater v lt same less =
      let long : length h.vertices ≡ length vertices = ah.as_many in
      let found = nh.rising v (get_or h.vertices v no_vertex) (made_at kinds vertices order h ah v lt) (kind_at g v)
      less in
      let before : found.0 < v = found.1 in
      let u_in : found.0 < length vertices = omega arith in
      let is : kind_at h found.0 ≡ kind_at g v = at_value (slice_get h.vertices found.0) (λ x. x.kind ≡ kind_at g v)
      (get_or h.vertices found.0 no_vertex) (made_at kinds vertices order h ah found.0 u_in) found.2 in
      let called : slice_get h.kinds (kind_at h found.0) ≡ slice_get h.kinds (kind_at h v) =
      sym (same_called kinds vertices order g ag h ah found.0 u_in)
      ∙ (ap (slice_get g.kinds) (same found.0 before ∙ is) ∙ same_called kinds vertices order g ag h ah v lt) in
      let known : kind_at h found.0 < length h.kinds = nh.known found.0 (get_or h.vertices found.0 no_vertex)
      (made_at kinds vertices order h ah found.0 u_in) in
      let equal : kind_at h found.0 ≡ kind_at h v = nh.apart (kind_at h found.0) (kind_at h v)
      (some_within h.kinds (kind_at h found.0) [] known) called in
      omega arith

module _ (kinds : List (List ℕ)) (vertices : List Vertex) (order : List ℕ) (g : ResourceGraph)
    (ag : IsArranged kinds vertices order g) (ng : NumbersKinds g) (h : ResourceGraph)
    (ah : IsArranged kinds vertices order h) (nh : NumbersKinds h) where
  kinds_to : (k v : ℕ) → k ≤ length vertices → v < k → kind_at g v ≡ kind_at h v
  kinds_to zero v le lt = absurd (omega arith)
  kinds_to (suc k) v le lt =
      let before : (u : ℕ) → u < k → kind_at g u ≡ kind_at h u = λ u lt. kinds_to k u (omega arith) lt in
      elim (cases_lt v k) [
        | inl less ↦ before v less
        | inr last ↦ (
            let is : k ≡ v = omega arith in
            let here : kind_at g k ≡ kind_at h k = elim (cases_order (kind_at g k) (kind_at h k)) [
              | inl e ↦ e
              | inr differ ↦ elim differ [
                | inl less ↦ absurd (not_greater kinds vertices order g ag h ah nh k (omega arith) before less)
                | inr more ↦ absurd (not_greater kinds vertices order h ah g ag ng k (omega arith)
                    (λ u lt. sym (before u lt)) more)
              ]
            ] in
            subst (λ (i : ℕ). kind_at g i ≡ kind_at h i) is here)
      ]

  same_kind : (v : ℕ) → v < length vertices → kind_at g v ≡ kind_at h v
  same_kind v lt = kinds_to (length vertices) v (omega arith) lt

  -- each type of one graph is the other's type with its number
  kind_known : (k : ℕ) → k < length g.kinds → slice_get g.kinds k ≡ slice_get h.kinds k
  kind_known k lt =
      let used = ng.used k lt in
      let x = value_of (slice_get g.vertices used.0) (λ x. x.kind ≡ k) used.1 in
      let in_g : used.0 < length g.vertices = slice_get_within g.vertices used.0 x.0 x.1 in
      let long : length g.vertices ≡ length vertices = ag.as_many in
      let v_in : used.0 < length vertices = omega arith in
      let is : kind_at g used.0 ≡ k = at_value (slice_get g.vertices used.0) (λ x. x.kind ≡ k)
      (get_or g.vertices used.0 no_vertex) (made_at kinds vertices order g ag used.0 v_in) used.1 in
      ap (slice_get g.kinds) (sym is) ∙ (same_called kinds vertices order g ag h ah used.0 v_in
      ∙ ap (slice_get h.kinds) (sym (same_kind used.0 v_in) ∙ is))

  -- the parent's number is the index of the raw parent
  same_parent : (a b c : Option ℕ) → MatchOption a (b ≡ None) (λ i. IsSomeAnd b (λ p. slice_get order p ≡ Some i)) →
      MatchOption a (c ≡ None) (λ i. IsSomeAnd c (λ p. slice_get order p ≡ Some i)) → b ≡ c
  same_parent None b c e f = e ∙ sym f
  same_parent (Some i) b c e f =
      let p = value_of b (λ p. slice_get order p ≡ Some i) e in
      let q = value_of c (λ p. slice_get order p ≡ Some i) f in
      p.1 ∙ (ap Some (ag.indices.apart p.0 q.0 i p.2 q.2) ∙ sym q.1)

  same_fields : (x y : Vertex) → x.kind ≡ y.kind → x.size ≡ y.size → x.parent ≡ y.parent → x.id ≡ y.id →
      x.rank ≡ y.rank → x ≡ y
  same_fields x y k s p i r = ap (λ n. record
      { kind = n; size = x.size; parent = x.parent; id = x.id; rank = x.rank }) k
      ∙ (ap (λ n. record { kind = y.kind; size = n; parent = x.parent; id = x.id; rank = x.rank }) s
      ∙ (ap (λ n. record { kind = y.kind; size = y.size; parent = n; id = x.id; rank = x.rank }) p
      ∙ (ap (λ n. record { kind = y.kind; size = y.size; parent = y.parent; id = n; rank = x.rank }) i
      ∙ ap (λ n. record { kind = y.kind; size = y.size; parent = y.parent; id = y.id; rank = n }) r)))

  same_vertex : (v : ℕ) → v < length vertices → get_or g.vertices v no_vertex ≡ get_or h.vertices v no_vertex
  same_vertex v lt =
      let a = renumbered_at kinds vertices order g ag v lt in
      let b = renumbered_at kinds vertices order h ah v lt in
      let x = raw kinds vertices order g ag v lt in
      same_fields (get_or g.vertices v no_vertex) (get_or h.vertices v no_vertex) (same_kind v lt)
      (a.size ∙ sym b.size) (same_parent x.parent _ _ a.parent b.parent) (a.id ∙ sym b.id)
      (ranked_at kinds vertices order g ag v lt ∙ sym (ranked_at kinds vertices order h ah v lt))

  pub same_vertices : g.vertices ≡ h.vertices
  same_vertices = same_items g.vertices h.vertices at
    where
      at : (v : ℕ) → slice_get g.vertices v ≡ slice_get h.vertices v
      at v =
          let long_g : length g.vertices ≡ length vertices = ag.as_many in
          let long_h : length h.vertices ≡ length vertices = ah.as_many in
          elim (cases_lt v (length vertices)) [
            | inl lt ↦ made_at kinds vertices order g ag v lt
                ∙ (ap Some (same_vertex v lt) ∙ sym (made_at kinds vertices order h ah v lt))
            | inr le ↦ slice_get_past g.vertices v (omega arith) ∙ sym (slice_get_past h.vertices v (omega arith))
          ]

  -- types past the first graph's are none of the second one
  kinds_short : length h.kinds ≤ length g.kinds
  kinds_short = elim (cases_lt (length g.kinds) (length h.kinds)) [ inl more ↦ absurd (over more) | inr le ↦ le ]
    where
      over : length g.kinds < length h.kinds → ⊥
      over more =
          let used = nh.used (length g.kinds) more in
          let x = value_of (slice_get h.vertices used.0) (λ x. x.kind ≡ length g.kinds) used.1 in
          let in_h : used.0 < length h.vertices = slice_get_within h.vertices used.0 x.0 x.1 in
          let long : length h.vertices ≡ length vertices = ah.as_many in
          let v_in : used.0 < length vertices = omega arith in
          let is : kind_at h used.0 ≡ length g.kinds = at_value (slice_get h.vertices used.0)
          (λ x. x.kind ≡ length g.kinds) (get_or h.vertices used.0 no_vertex)
          (made_at kinds vertices order h ah used.0 v_in) used.1 in
          let known : kind_at g used.0 < length g.kinds = ng.known used.0 (get_or g.vertices used.0 no_vertex)
          (made_at kinds vertices order g ag used.0 v_in) in
          let same : kind_at g used.0 ≡ kind_at h used.0 = same_kind used.0 v_in in
          omega arith

module _ (kinds : List (List ℕ)) (vertices : List Vertex) (order : List ℕ) (g : ResourceGraph)
    (ag : IsArranged kinds vertices order g) (ng : NumbersKinds g) (h : ResourceGraph)
    (ah : IsArranged kinds vertices order h) (nh : NumbersKinds h) where
  pub same_kinds : g.kinds ≡ h.kinds
  same_kinds = same_items g.kinds h.kinds at
    where
      at : (k : ℕ) → slice_get g.kinds k ≡ slice_get h.kinds k
      at k =
          let short : length h.kinds ≤ length g.kinds = kinds_short kinds vertices order g ag ng h ah nh in
          elim (cases_lt k (length g.kinds)) [
            | inl lt ↦ kind_known kinds vertices order g ag ng h ah nh k lt
            | inr le ↦ slice_get_past g.kinds k le ∙ sym (slice_get_past h.kinds k (omega arith))
          ]

-- ---- the graph

same_graph : (g h : NamedGraph) → g.resources ≡ h.resources → g.names ≡ h.names → g.bases ≡ h.bases →
    g.units ≡ h.units → g.properties ≡ h.properties → g ≡ h
same_graph g h r n b u p = ap (λ z. record
    { resources = z; names = g.names; bases = g.bases; units = g.units; properties = g.properties }) r
    ∙ (ap (λ z. record {
      resources = h.resources;
      names = z;
      bases = g.bases;
      units = g.units;
      properties =
          g.properties;
    }) n
    ∙ (ap (λ z. record {
      resources = h.resources;
      names = h.names;
      bases = z;
      units = g.units;
      properties =
          g.properties;
    }) b
    ∙ (ap (λ z. record {
      resources = h.resources;
      names = h.names;
      bases = h.bases;
      units = z;
      properties =
          g.properties;
    }) u
    ∙ ap (λ z. record { resources = h.resources; names = h.names; bases = h.bases; units = h.units; properties = z })
    p)))

-- a list of vertices has at most one graph
pub one_graph : (kinds : List (List ℕ)) (raw : List RawVertex) (g h : NamedGraph) → IsBuiltFrom kinds raw g →
    IsBuiltFrom kinds raw h → g ≡ h
one_graph kinds raw g h a b =
    let vertices = map shape_of raw in
    let order : a.order ≡ b.order = same_order kinds vertices a.order g.resources a.arranged a.whole.valid.preorder
    a.siblings b.order h.resources b.arranged b.whole.valid.preorder b.siblings in
    let arranged : IsArranged kinds vertices a.order h.resources =
    subst (λ (o : List ℕ). IsArranged kinds vertices o h.resources) (sym order) b.arranged in
    let texts : AreTextsOf raw a.order h = subst (λ (o : List ℕ). AreTextsOf raw o h) (sym order) b.texts in
    let types : g.resources.kinds ≡ h.resources.kinds = same_kinds kinds vertices a.order g.resources a.arranged
    a.whole.valid.kinds h.resources arranged b.whole.valid.kinds in
    let list : g.resources.vertices ≡ h.resources.vertices = same_vertices kinds vertices a.order g.resources
    a.arranged a.whole.valid.kinds h.resources arranged b.whole.valid.kinds in
    let resources : g.resources ≡ h.resources = ap₂ (λ ks vs. record { kinds = ks; vertices = vs }) types list in
    same_graph g h resources (same_items g.names h.names (λ k. a.texts.names k ∙ sym (texts.names k)))
    (same_items g.bases h.bases (λ k. a.texts.bases k ∙ sym (texts.bases k)))
    (same_items g.units h.units (λ k. a.texts.units k ∙ sym (texts.units k)))
    (same_items g.properties h.properties (λ k. a.texts.properties k ∙ sym (texts.properties k)))
