-- Nodes above vertices, and what lies in them.
use Rattle.std.proofs.Common.{◌≡◌, ℕ, zero, suc, ◌<◌, ◌≤◌, ◌==◌, ◌&&◌, true, false, List, length, Option, Some, None}
use Rattle.std.proofs.Common.{inl, inr, refl, sym, ◌∙◌, ap, subst, arith, true≢false, IsTrue, option_and_then}
use Rattle.std.specs.Prelude.{slice_get, is_some, codes, IsSome}
use Rattle.std.specs.Option.{IsSomeAnd, option_map_or}
use Rattle.std.specs.Str.{bytes_eq}
use Rattle.std.proofs.lemmas.Bool.{cases_lt, cases_eq, false_from_ne_true, and_parts, and_from, eqb-true, eq-eqb}
use Rattle.std.proofs.lemmas.Option.{slice_get_within, slice_get_past}
use Rattle.std.proofs.lemmas.Slice.Eq.{bytes_eq-Decides}
use Rattle.flux_defs.specs.declared.vertices.Vertex.{Vertex}
use Rattle.flux_defs.specs.Graph.{ResourceGraph, parent_of, is_at_or_below, IsNode}
use Rattle.flux_defs.specs.ValidGraph.{IsValidGraph, HasRank}
use Rattle.graph_laws.proofs.Containment.{ParentsFirst, above_is_chain, up, up-None, steps_of}
use Rattle.graph_laws.proofs.Containment.{below_le, below_from}
use Rattle.graph_laws.proofs.Preorder.{parents_first}
use Rattle.resource_graph.specs.Tables.{IsPast, IsNodeOf, IsNamedKind}
use Rattle.resource_graph.specs.Finds.{IsFirstOf}
use Rattle.list_laws.proofs.Values.{value_of, from_value}
use Rattle.resource_graph.proofs.Finds.{Passes, finds_position}
use Rattle.resource_set_r.specs.Rows.{node_above, rank_above, is_in_rank, node_with, type_called}
use Rattle.resource_graph.specs.Tables.{rank_at}
use Rattle.resource_set_r.proofs.Filtered.{find_only, find_none, find_some}

module _ (vertices : List Vertex) where
  -- a vertex with a rank is a node
  pub node_ranked : (n : ℕ) → IsNode vertices n → (is_some (rank_at vertices n) ≡ true) × (n < length vertices)
  node_ranked n h =
      let x = value_of (slice_get vertices n) (λ x. is_some x.rank ≡ true) h in
      (ap (λ o. is_some (option_and_then (λ x. x.rank) o)) x.1 ∙ x.2, slice_get_within vertices n x.0 x.1)

  pub ranked_node : (n : ℕ) → is_some (rank_at vertices n) ≡ true → IsNode vertices n
  ranked_node n h = by (slice_get vertices n) h
    where
      by : (o : Option Vertex) →
          is_some (option_and_then (λ x. x.rank) o) ≡ true → IsSomeAnd o (λ x. is_some x.rank ≡ true)
      by None h = absurd (true≢false (sym h))
      by (Some x) h = h

  pub rank_has : (g : ResourceGraph) (rank n : ℕ) →
      g.vertices ≡ vertices → rank_at vertices n ≡ Some rank → HasRank g rank n
  rank_has g rank n same h =
      subst (λ vs. IsSomeAnd (slice_get vs n) (λ x. x.rank ≡ Some rank)) (sym same) (by (slice_get vertices n) h)
    where
      by : (o : Option Vertex) → option_and_then (λ x. x.rank) o ≡ Some rank → IsSomeAnd o (λ x. x.rank ≡ Some rank)
      by None h = cc
      by (Some x) h = h

module _ (g : ResourceGraph) (names : List (List ℕ)) (valid : IsValidGraph g names) where
  first : ParentsFirst g.vertices
  first = parents_first g valid.preorder

  -- what is at or below a vertex is a vertex
  pub below_within : (v u : ℕ) → u < length g.vertices → IsTrue (is_at_or_below g.vertices v u) → v < length g.vertices
  below_within v u lt h =
      elim (cases_lt v (length g.vertices)) [
        | inl within ↦ within
        | inr past ↦ absurd (
            let none : parent_of g.vertices v ≡ None =
            ap (option_and_then (λ x. x.parent)) (slice_get_past g.vertices v past) in
            let s = steps_of g.vertices first v u h in
            by none past s.0 s.1)
      ]
    where
      by : parent_of g.vertices v ≡ None → length g.vertices ≤ v → (n : ℕ) → up g.vertices n (Some v) ≡ Some u → ⊥
      by none past zero e = let same : v ≡ u = cc in omega arith
      by none past (suc n) e =
          let up_none : None ≡ Some u = sym (up-None g.vertices n) ∙ (ap (up g.vertices n) (sym none) ∙ e) in cc

  node_type : (n : ℕ) → IsNode g.vertices n →
      (x : Vertex) × (slice_get g.vertices n ≡ Some x) × (slice_get g.kinds x.kind ≡ Some (codes "node"))
  node_type n h =
      let x = value_of (slice_get g.vertices n) (λ x. is_some x.rank ≡ true) h in
      let t = (valid.nodes n x.0 x.1).0 h in
      value_of (slice_get g.vertices n) (λ x. slice_get g.kinds x.kind ≡ Some (codes "node")) t

  nodes_apart : (n m : ℕ) → IsNode g.vertices n → IsNode g.vertices m → IsTrue (is_at_or_below g.vertices n m) → n ≡ m
  nodes_apart n m is_n is_m h =
      elim (cases_eq n m) [
        | inl same ↦ same
        | inr differ ↦ absurd (
            let x = node_type n is_n in
            let y = node_type m is_m in
            let some : IsSome (slice_get g.kinds x.0.kind) = ap is_some x.2 in
            let kind : x.0.kind ≡ y.0.kind = valid.kinds.apart x.0.kind y.0.kind some (x.2 ∙ sym y.2) in
            valid.unnested n m x.0.kind (from_value (slice_get g.vertices n) (λ z. z.kind ≡ x.0.kind) x.0 x.1 refl)
            (from_value (slice_get g.vertices m) (λ z. z.kind ≡ x.0.kind) y.0 y.1 (sym kind))
            (below_from g.vertices first n m differ h))
      ]

  -- a vertex lies in one node at most
  pub one_node : (v n m : ℕ) → v < length g.vertices → IsNode g.vertices n →
      IsNode g.vertices m → IsTrue (is_at_or_below g.vertices v n) → IsTrue (is_at_or_below g.vertices v m) → n ≡ m
  one_node v n m lt is_n is_m at_n at_m =
      elim (above_is_chain g.vertices first v n m lt at_n at_m) [
        | inl below ↦ nodes_apart n m is_n is_m below
        | inr above ↦ sym (nodes_apart m n is_m is_n above)
      ]

  pub node_above_is : (v n : ℕ) →
      IsNode g.vertices n → IsTrue (is_at_or_below g.vertices v n) → node_above g.vertices v ≡ Some n
  node_above_is v n is_n at_n =
      let ranked = node_ranked g.vertices n is_n in
      let within = below_within v n ranked.1 at_n in
      find_only (λ n. is_some (rank_at g.vertices n) && is_at_or_below g.vertices v n)
      (length g.vertices) 0 n (omega arith) (omega (arith, ranked.1)) (and_from _ _ ranked.0 at_n) (λ m lo hi h.
      let both = and_parts (is_some (rank_at g.vertices m)) (is_at_or_below g.vertices v m) h in
      one_node v m n within (ranked_node g.vertices m both.0) is_n both.1 at_n)

  pub node_above_none : (v : ℕ) →
      ((n : ℕ) → IsNode g.vertices n → IsTrue (is_at_or_below g.vertices v n) → ⊥) → node_above g.vertices v ≡ None
  node_above_none v none =
      find_none (λ n. is_some (rank_at g.vertices n) && is_at_or_below g.vertices v n)
      (length g.vertices) 0 (λ m lo hi. false_from_ne_true _ (λ h.
      let both = and_parts (is_some (rank_at g.vertices m)) (is_at_or_below g.vertices v m) h in
      none m (ranked_node g.vertices m both.0) both.1))

  pub node_above_at : (v n : ℕ) →
      node_above g.vertices v ≡ Some n → IsNode g.vertices n × IsTrue (is_at_or_below g.vertices v n)
  node_above_at v n e =
      let found =
      find_some (λ n. is_some (rank_at g.vertices n) && is_at_or_below g.vertices v n) (length g.vertices) 0 n e in
      let both = and_parts (is_some (rank_at g.vertices n)) (is_at_or_below g.vertices v n) found.0 in
      (ranked_node g.vertices n both.0, both.1)

  -- what the query for a vertex's node answers
  pub node_above_found : (v : ℕ) (found : Option ℕ) → IsNodeOf g.vertices v found → node_above g.vertices v ≡ found
  node_above_found v None h = node_above_none v h
  node_above_found v (Some n) h = node_above_is v n h.0 h.1

  -- past the graph there is nothing
  pub rank_above_past : (v : ℕ) → length g.vertices ≤ v → rank_above g.vertices v ≡ None
  rank_above_past v past =
      ap (option_and_then (rank_at g.vertices)) (node_above_none v (λ n is_n at_n.
      let lt : v < length g.vertices = below_within v n (node_ranked g.vertices n is_n).1 at_n in omega arith))

  -- what lies in a rank
  pub in_rank_at : (rank v : ℕ) → is_in_rank g.vertices rank v ≡ true →
      (n : ℕ) × IsNode g.vertices n × IsTrue (is_at_or_below g.vertices v n) × (rank_at g.vertices n ≡ Some rank)
  in_rank_at rank v h = by (node_above g.vertices v) refl h
    where
      ranks : (n : ℕ) (o : Option ℕ) →
          rank_at g.vertices n ≡ o → option_map_or (λ r. r == rank) o false ≡ true → rank_at g.vertices n ≡ Some rank
      ranks n None e t = absurd (true≢false (sym t))
      ranks n (Some r) e t = e ∙ ap Some (eqb-true r rank t)

      by : (o : Option ℕ) → node_above g.vertices v ≡ o →
          option_map_or (λ r. r == rank) (option_and_then (rank_at g.vertices) o) false ≡ true →
          (n : ℕ) × IsNode g.vertices n × IsTrue (is_at_or_below g.vertices v n) × (rank_at g.vertices n ≡ Some rank)
      by None e t = absurd (true≢false (sym t))
      by (Some n) e t = let at = node_above_at v n e in (n, at.0, at.1, ranks n (rank_at g.vertices n) refl t)

  pub in_no_rank : (rank : ℕ) → ((n : ℕ) → HasRank g rank n → ⊥) → (v : ℕ) → is_in_rank g.vertices rank v ≡ false
  in_no_rank rank none v =
      false_from_ne_true _ (λ h. let at = in_rank_at rank v h in none at.0 (rank_has g.vertices g rank at.0 refl at.3))

  module _ (rank n after : ℕ) (has : HasRank g rank n) (past : IsPast g.vertices n after) where
    here : (x : Vertex) × (slice_get g.vertices n ≡ Some x) × (x.rank ≡ Some rank)
    here = value_of (slice_get g.vertices n) (λ x. x.rank ≡ Some rank) has

    rank_here : rank_at g.vertices n ≡ Some rank
    rank_here = ap (option_and_then (λ x. x.rank)) here.1 ∙ here.2

    node_here : IsNode g.vertices n
    node_here = ranked_node g.vertices n (ap is_some rank_here)

    pub in_rank_inside : (v : ℕ) → n ≤ v → v < after → is_in_rank g.vertices rank v ≡ true
    in_rank_inside v lo hi =
        let above : node_above g.vertices v ≡ Some n = node_above_is v n node_here (past.covered v lo hi) in
        ap (λ o. option_map_or (λ r. r == rank) (option_and_then (rank_at g.vertices) o) false) above
        ∙ ap (λ o. option_map_or (λ r. r == rank) o false) rank_here ∙ eq-eqb rank rank refl

    in_range : (v : ℕ) → is_in_rank g.vertices rank v ≡ true → (n ≤ v) × (v < after)
    in_range v h =
        let at = in_rank_at rank v h in
        let same : at.0 ≡ n = valid.ranks at.0 n rank (rank_has g.vertices g rank at.0 refl at.3) has in
        let below : IsTrue (is_at_or_below g.vertices v n) =
        subst (λ (m : ℕ). IsTrue (is_at_or_below g.vertices v m)) same at.2 in (
          below_le g.vertices first v n below,
          past.whole v (below_within v n (slice_get_within g.vertices n here.0 here.1) below) below,
        )

    pub in_rank_before : (v : ℕ) → v < n → is_in_rank g.vertices rank v ≡ false
    in_rank_before v lt = false_from_ne_true _ (λ h. let r : n ≤ v = (in_range v h).0 in omega arith)

    pub in_rank_after : (v : ℕ) → after ≤ v → is_in_rank g.vertices rank v ≡ false
    in_rank_after v le = false_from_ne_true _ (λ h. let r : v < after = (in_range v h).1 in omega arith)

  of_rank : (rank m : ℕ) (o : Option ℕ) →
      rank_at g.vertices m ≡ o → option_map_or (λ r. r == rank) o false ≡ true → rank_at g.vertices m ≡ Some rank
  of_rank rank m None e t = absurd (true≢false (sym t))
  of_rank rank m (Some r) e t = e ∙ ap Some (eqb-true r rank t)

  -- the node of a rank
  pub node_with_found : (rank n : ℕ) → HasRank g rank n → node_with g.vertices rank ≡ Some n
  node_with_found rank n has =
      let at = value_of (slice_get g.vertices n) (λ x. x.rank ≡ Some rank) has in
      let is : rank_at g.vertices n ≡ Some rank = ap (option_and_then (λ x. x.rank)) at.1 ∙ at.2 in
      let within = slice_get_within g.vertices n at.0 at.1 in
      find_only (λ v. option_map_or (λ r. r == rank) (rank_at g.vertices v) false)
      (length g.vertices) 0 n (omega arith) (omega (arith, within))
      (ap (λ o. option_map_or (λ r. r == rank) o false) is ∙ eq-eqb rank rank refl)
      (λ m lo hi h. valid.ranks m n rank
      (rank_has g.vertices g rank m refl (of_rank rank m (rank_at g.vertices m) refl h)) has)

  pub node_with_none : (rank : ℕ) → ((n : ℕ) → HasRank g rank n → ⊥) → node_with g.vertices rank ≡ None
  node_with_none rank none =
      find_none (λ v. option_map_or (λ r. r == rank) (rank_at g.vertices v) false) (length g.vertices) 0
      (λ m lo hi. false_from_ne_true _
      (λ h. none m (rank_has g.vertices g rank m refl (of_rank rank m (rank_at g.vertices m) refl h))))

  -- what the query for a type answers
  pub type_called_found : (name : List ℕ) (found : Option ℕ) → IsNamedKind g name found → type_called g name ≡ found
  type_called_found name found h =
      by (type_called g name) refl found h (finds_position (bytes_eq name) g.kinds (type_called g name) refl)
    where
      at : (k : ℕ) → Passes (bytes_eq name) g.kinds k → slice_get g.kinds k ≡ Some name
      at k passes = let x = value_of (slice_get g.kinds k) (λ x. bytes_eq name x ≡ true) passes in
          x.1 ∙ ap Some (sym ((bytes_eq-Decides name x.0).0 x.2))

      passes : (k : ℕ) → slice_get g.kinds k ≡ Some name → Passes (bytes_eq name) g.kinds k
      passes k e =
          from_value (slice_get g.kinds k) (λ x. bytes_eq name x ≡ true) name e ((bytes_eq-Decides name name).1 refl)

      by : (o : Option ℕ) → type_called g name ≡ o → (found : Option ℕ) →
          IsNamedKind g name found → IsFirstOf (Passes (bytes_eq name) g.kinds) o → type_called g name ≡ found
      by None e None h f = e
      by None e (Some k) h f = absurd (f k (passes k h))
      by (Some j) e None h f = absurd (h j (at j f.0))
      by (Some j) e (Some k) h f =
          let here = at j f.0 in
          let same : j ≡ k = valid.kinds.apart j k (ap is_some here) (here ∙ sym h) in
          e ∙ ap Some same
