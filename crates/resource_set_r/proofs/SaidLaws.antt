-- What R says of a job, in the words of its claims.
use Rattle.std.proofs.Common.{◌≡◌, ℕ, ◌+◌, ◌<◌, ◌==◌, ◌||◌, Bool, true, false, List, length, Option, Some, None, inl}
use Rattle.std.proofs.Common.{inr, refl, sym, ◌∙◌, ap, subst, arith, true≢false, IsTrue, option_and_then, is_some}
use Rattle.std.proofs.Common.{if◌then◌else◌}
use Rattle.std.specs.Prelude.{slice_get}
use Rattle.std.specs.List.{Contains, filter_map, flat_map}
use Rattle.std.specs.Option.{option_map_or, IsSomeAnd}
use Rattle.std.specs.Str.{bytes_eq}
use Rattle.std.proofs.lemmas.Bool.{or_cases, or_left, or_right, eqb-true, eq-eqb}
use Rattle.std.proofs.lemmas.Option.{slice_get_within}
use Rattle.std.proofs.lemmas.Slice.Eq.{bytes_eq-Decides}
use Rattle.flux_defs.specs.declared.vertices.Vertex.{Vertex}
use Rattle.flux_defs.specs.declared.claims.Claim.{Claim}
use Rattle.flux_defs.specs.declared.claims.Claim.TheVariants.{Take, Hold, Pass}
use Rattle.flux_defs.specs.Graph.{ResourceGraph, is_at_or_below, IsNode}
use Rattle.flux_defs.specs.Jobs.{vertex_of, holds_over, is_on_or_below}
use Rattle.flux_defs.specs.ValidGraph.{IsValidGraph, HasType, HasId, HasRank}
use Rattle.graph_laws.proofs.Containment.{ParentsFirst, below_self, above_is_chain}
use Rattle.graph_laws.proofs.Preorder.{parents_first}
use Rattle.resource_graph.specs.Finds.{IsFirstOf}
use Rattle.list_laws.proofs.Values.{value_of}
use Rattle.resource_graph.proofs.Finds.{Passes, finds_position}
use Rattle.resource_set_r.specs.Rows.{numbers, is_given_by, given_by, given, node_above, rank_above}
use Rattle.resource_graph.specs.Tables.{rank_at}
use Rattle.resource_set_r.specs.Rows.{is_in_rank, ranks_in, type_called, is_of_type, id_of_type, part_of, ids_among}
use Rattle.resource_set_r.specs.Said.{IsShared, IsChild, AreRanksOfClaims, AreIdsOfClaims}
use Rattle.resource_set_r.proofs.Members.{Stands, contains_stands, stands_contains, of_rising, in_rising, of_filter}
use Rattle.resource_set_r.proofs.Members.{in_filter, of_filter_map, in_filter_map, of_flat_map, in_flat_map, of_ids}
use Rattle.resource_set_r.proofs.Members.{in_ids, of_any, in_any}
use Rattle.resource_set_r.proofs.NodeLaws.{ranked_node, rank_has, below_within, node_above_is, node_above_at}
use Rattle.resource_set_r.proofs.NodeLaws.{in_rank_at, type_called_found}

-- ---- what is given

of_given : (vertices : List Vertex) (claims : List Claim) (v : ℕ) → Stands v (given vertices claims) →
    (v < length vertices) × ((c : Claim) × Stands c claims × (is_given_by vertices c v ≡ true))
of_given vertices claims v h =
    let by = of_flat_map (given_by vertices) v claims (of_rising v (flat_map (given_by vertices) claims) h) in
    let kept = of_filter (is_given_by vertices by.0) v (numbers vertices) by.2 in
    let within : v < 0 + length vertices = (of_ids v (length vertices) 0 kept.0).1 in
    (omega arith, (by.0, by.1, kept.1))

in_given : (vertices : List Vertex) (claims : List Claim) (v : ℕ) (c : Claim) →
    v < length vertices → Stands c claims → is_given_by vertices c v ≡ true → Stands v (given vertices claims)
in_given vertices claims v c lt s t =
    in_rising v (flat_map (given_by vertices) claims)
    (in_flat_map (given_by vertices) c v claims s (in_filter
    (is_given_by vertices c) v (numbers vertices) (in_ids v (length vertices) 0 (omega arith) (omega arith)) t))

module _ (g : ResourceGraph) (names : List (List ℕ)) (valid : IsValidGraph g names) where
  first : ParentsFirst g.vertices
  first = parents_first g valid.preorder

  node_of_rank : (rank n : ℕ) →
      HasRank g rank n → (rank_at g.vertices n ≡ Some rank) × IsNode g.vertices n × (n < length g.vertices)
  node_of_rank rank n has =
      let x = value_of (slice_get g.vertices n) (λ x. x.rank ≡ Some rank) has in
      let is : rank_at g.vertices n ≡ Some rank = ap (option_and_then (λ x. x.rank)) x.1 ∙ x.2 in
      (is, ranked_node g.vertices n (ap is_some is), slice_get_within g.vertices n x.0 x.1)

  rank_above_is : (rank n v : ℕ) →
      HasRank g rank n → IsTrue (is_at_or_below g.vertices v n) → rank_above g.vertices v ≡ Some rank
  rank_above_is rank n v has at =
      let node = node_of_rank rank n has in
      ap (option_and_then (rank_at g.vertices)) (node_above_is g names valid v n node.1 at) ∙ node.0

  rank_above_at : (rank v : ℕ) →
      rank_above g.vertices v ≡ Some rank → (n : ℕ) × HasRank g rank n × IsTrue (is_at_or_below g.vertices v n)
  rank_above_at rank v e = by (node_above g.vertices v) refl e
    where
      by : (o : Option ℕ) → node_above g.vertices v ≡ o → option_and_then (rank_at g.vertices) o ≡ Some rank →
          (n : ℕ) × HasRank g rank n × IsTrue (is_at_or_below g.vertices v n)
      by None f h = absurd (cc)
      by (Some n) f h = (n, rank_has g.vertices g rank n refl h, (node_above_at g names valid v n f).1)

  -- a claim that gives a vertex in a node is on the node or below it, or holds over it
  shared_by : (c : Claim) (v n : ℕ) → v < length g.vertices → IsTrue (is_at_or_below g.vertices v n) →
      is_given_by g.vertices c v ≡ true → (is_on_or_below g.vertices n c || holds_over g.vertices n c) ≡ true
  shared_by c v n lt at t =
      elim (or_cases (vertex_of c == v) (holds_over g.vertices v c) t) [
        | inl same ↦ or_left (is_on_or_below g.vertices n c) (holds_over g.vertices n c)
            (subst (λ (u : ℕ). is_at_or_below g.vertices u n ≡ true) (sym (eqb-true (vertex_of c) v same)) at)
        | inr held ↦ by c held
      ]
    where
      by : (c : Claim) →
          holds_over g.vertices v c ≡ true → (is_on_or_below g.vertices n c || holds_over g.vertices n c) ≡ true
      by (Take u q) h = absurd (true≢false (sym h))
      by (Hold u) h =
          elim (above_is_chain g.vertices first v n u lt at h) [
            | inl inside ↦ or_right (is_at_or_below g.vertices u n) (is_at_or_below g.vertices n u) inside
            | inr above ↦ or_left (is_at_or_below g.vertices u n) (is_at_or_below g.vertices n u) above
          ]
      by (Pass u) h = absurd (true≢false (sym h))

  of_ranks : (claims : List Claim) (rank : ℕ) →
      Contains (ranks_in g.vertices claims) rank → (n : ℕ) × HasRank g rank n × IsShared g.vertices claims n
  of_ranks claims rank has =
      let v = of_filter_map (rank_above g.vertices) rank (given g.vertices claims) (of_rising rank (filter_map
      (rank_above g.vertices) (given g.vertices claims)) (stands_contains rank (ranks_in g.vertices claims) has)) in
      let by = of_given g.vertices claims v.0 v.1 in
      let n = rank_above_at rank v.0 v.2 in (
        n.0,
        n.1,
        in_any (λ c. is_on_or_below g.vertices n.0 c || holds_over g.vertices n.0 c) by.1.0 claims by.1.1
            (shared_by by.1.0 v.0 n.0 by.0 n.2 by.1.2),
      )

  in_ranks : (claims : List Claim) (rank n v : ℕ) (c : Claim) →
      HasRank g rank n → IsTrue (is_at_or_below g.vertices v n) →
      Stands c claims → is_given_by g.vertices c v ≡ true → Contains (ranks_in g.vertices claims) rank
  in_ranks claims rank n v c has at s t =
      let node = node_of_rank rank n has in
      let lt = below_within g names valid v n node.2 at in
      contains_stands rank
      (ranks_in g.vertices claims) (in_rising rank (filter_map (rank_above g.vertices) (given g.vertices claims))
      (in_filter_map (rank_above g.vertices) v rank
      (given g.vertices claims) (in_given g.vertices claims v c lt s t) (rank_above_is rank n v has at)))

  shared_in : (claims : List Claim) (rank n : ℕ) →
      HasRank g rank n → IsShared g.vertices claims n → Contains (ranks_in g.vertices claims) rank
  shared_in claims rank n has shared =
      let c = of_any (λ c. is_on_or_below g.vertices n c || holds_over g.vertices n c) claims shared in
      let node = node_of_rank rank n has in
      elim (or_cases (is_on_or_below g.vertices n c.0) (holds_over g.vertices n c.0) c.2) [
        | inl on ↦ in_ranks claims rank n (vertex_of c.0) c.0 has on c.1 (or_left (vertex_of c.0 == vertex_of c.0)
            (holds_over g.vertices (vertex_of c.0) c.0) (eq-eqb (vertex_of c.0) (vertex_of c.0) refl))
        | inr over ↦ in_ranks claims rank n n c.0 has (below_self g.vertices first n node.2) c.1
            (or_right (vertex_of c.0 == n) (holds_over g.vertices n c.0) over)
      ]

  -- ---- children

  of_type_at : (name : List ℕ) (v : ℕ) → is_of_type g.vertices (type_called g name) v ≡ true → HasType g name v
  of_type_at name v h = by (slice_get g.vertices v) h
    where
      named : (k : ℕ) → type_called g name ≡ Some k → slice_get g.kinds k ≡ Some name
      named k e =
          let found = subst (λ (o : Option ℕ). IsFirstOf (Passes (bytes_eq name) g.kinds) o) e
          (finds_position (bytes_eq name) g.kinds (type_called g name) refl) in
          let x = value_of (slice_get g.kinds k) (λ x. bytes_eq name x ≡ true) found.0 in
          x.1 ∙ ap Some (sym ((bytes_eq-Decides name x.0).0 x.2))

      at : (x : Vertex) (o : Option ℕ) → type_called g name ≡ o →
          option_map_or (λ k. x.kind == k) o false ≡ true → slice_get g.kinds x.kind ≡ Some name
      at x None e t = absurd (true≢false (sym t))
      at x (Some k) e t = ap (slice_get g.kinds) (eqb-true x.kind k t) ∙ named k e

      by : (o : Option Vertex) → option_map_or (λ x. option_map_or (λ k. x.kind == k) (type_called g name) false)
          o false ≡ true → IsSomeAnd o (λ x. slice_get g.kinds x.kind ≡ Some name)
      by None t = absurd (true≢false (sym t))
      by (Some x) t = at x (type_called g name) refl t

  at_of_type : (name : List ℕ) (v : ℕ) → HasType g name v → is_of_type g.vertices (type_called g name) v ≡ true
  at_of_type name v h =
      let x = value_of (slice_get g.vertices v) (λ x. slice_get g.kinds x.kind ≡ Some name) h in
      let called : type_called g name ≡ Some x.0.kind = type_called_found g names valid name (Some x.0.kind) x.2 in
      ap (λ o. option_map_or (λ y. option_map_or (λ k. y.kind == k) (type_called g name) false) o false) x.1
      ∙ ap (λ o. option_map_or (λ k. x.0.kind == k) o false) called ∙ eq-eqb x.0.kind x.0.kind refl

  of_id : (name : List ℕ) (v id : ℕ) →
      id_of_type g.vertices (type_called g name) v ≡ Some id → HasType g name v × HasId g id v
  of_id name v id e = by (is_of_type g.vertices (type_called g name) v) refl e
    where
      at : (o : Option Vertex) → option_and_then (λ x. x.id) o ≡ Some id → IsSomeAnd o (λ x. x.id ≡ Some id)
      at None f = absurd (cc)
      at (Some x) f = f

      by : (b : Bool) → is_of_type g.vertices (type_called g name) v ≡ b →
          (if b then option_and_then (λ x. x.id) (slice_get g.vertices v) else None) ≡ Some id →
          HasType g name v × HasId g id v
      by true t f = (of_type_at name v t, at (slice_get g.vertices v) f)
      by false t f = absurd (cc)

  in_id : (name : List ℕ) (v id : ℕ) →
      HasType g name v → HasId g id v → id_of_type g.vertices (type_called g name) v ≡ Some id
  in_id name v id typed has =
      let x = value_of (slice_get g.vertices v) (λ x. x.id ≡ Some id) has in
      ap (λ b. if b then option_and_then (λ x. x.id) (slice_get g.vertices v) else None) (at_of_type name v typed)
      ∙ ap (option_and_then (λ x. x.id)) x.1 ∙ x.2

  of_children : (claims : List Claim) (name : List ℕ) (rank id : ℕ) →
      Contains (ids_among g.vertices (type_called g name) (part_of g.vertices (given g.vertices claims) rank)) id →
      (n : ℕ) × (v : ℕ) × IsChild g claims name rank id n v
  of_children claims name rank id has =
      let kind = type_called g name in
      let part = part_of g.vertices (given g.vertices claims) rank in
      let v = of_filter_map (id_of_type g.vertices kind) id part (of_rising id
      (filter_map (id_of_type g.vertices kind) part) (stands_contains id (ids_among g.vertices kind part) has)) in
      let kept = of_filter (is_in_rank g.vertices rank) v.0 (given g.vertices claims) v.1 in
      let by = of_given g.vertices claims v.0 kept.0 in
      let n = in_rank_at g names valid rank v.0 kept.1 in
      let typed = of_id name v.0 id v.2 in (
        n.0,
        v.0,
        record {
          node = rank_has g.vertices g rank n.0 refl n.3;
          inside = n.2;
          of_type = typed.0;
          has_id = typed.1;
          is_given = in_any (λ c. is_given_by g.vertices c v.0) by.1.0 claims by.1.1 by.1.2;
        },
      )

  in_children : (claims : List Claim) (name : List ℕ) (rank id n v : ℕ) → IsChild g claims name rank id n v →
      Contains (ids_among g.vertices (type_called g name) (part_of g.vertices (given g.vertices claims) rank)) id
  in_children claims name rank id n v child =
      let kind = type_called g name in
      let part = part_of g.vertices (given g.vertices claims) rank in
      let node = node_of_rank rank n child.node in
      let lt = below_within g names valid v n node.2 child.inside in
      let c = of_any (λ c. is_given_by g.vertices c v) claims child.is_given in
      let inside : is_in_rank g.vertices rank v ≡ true = ap (λ o. option_map_or (λ r. r == rank) o false)
      (rank_above_is rank n v child.node child.inside) ∙ eq-eqb rank rank refl in
      let stands = in_filter (is_in_rank g.vertices rank) v
      (given g.vertices claims) (in_given g.vertices claims v c.0 lt c.1 c.2) inside in
      contains_stands id (ids_among g.vertices kind part) (in_rising id (filter_map (id_of_type g.vertices kind) part)
      (in_filter_map (id_of_type g.vertices kind) v id part stands (in_id name v id child.of_type child.has_id)))

pub ranks_said : AreRanksOfClaims
ranks_said g names valid claims rank =
    ((λ has. of_ranks g names valid claims rank has), (λ s. shared_in g names valid claims rank s.0 s.1 s.2))

pub ids_said : AreIdsOfClaims
ids_said g names valid claims name rank id = (
  (λ has. of_children g names valid claims name rank id has),
  (λ s. in_children g names valid claims name rank id s.0 s.1 s.2),
)
