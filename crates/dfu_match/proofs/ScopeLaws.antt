-- Which vertices are in a scope, and of a need.
use Rattle.std.proofs.Common.{◌≡◌, ◌≢◌, ℕ, zero, suc, ◌+◌, ◌<◌, ◌≤◌, ◌==◌, ◌&&◌, ◌↔◌, Bool, true, List, [], ◌∷◌, length}
use Rattle.std.proofs.Common.{Option, Some, None, slice_get, is_some, refl, sym, ◌∙◌, ap, subst, arith}
use Rattle.std.proofs.Common.{IsTrue}
use Rattle.std.specs.Prelude.{codes, IsSome}
use Rattle.std.specs.Option.{IsSomeAnd}
use Rattle.std.specs.List.{list_any}
use Rattle.std.proofs.lemmas.Bool.{and_parts, and_from, or_left, or_right, eqb-true, eq-eqb}
use Rattle.std.proofs.lemmas.Option.{slice_get_within}
use Rattle.flux_defs.specs.declared.vertices.Vertex.{Vertex}
use Rattle.flux_defs.specs.declared.claims.Claim.{Claim}
use Rattle.flux_defs.specs.declared.requests.Need.{Need}
use Rattle.flux_defs.specs.Graph.{ResourceGraph, Scope, Everywhere, Beneath, IsIn, HasKind, IsNode}
use Rattle.flux_defs.specs.ValidGraph.{IsValidGraph, HasType}
use Rattle.flux_defs.specs.Needs.{IsOfNeed}
use Rattle.flux_defs.specs.Lowest.{CanServe}
use Rattle.graph_laws.proofs.Containment.{in_graph, below_le, below_from, below_to}
use Rattle.graph_laws.proofs.Preorder.{parents_first}
use Rattle.resource_graph.specs.Tables.{IsPast, IsNamedKind}
use Rattle.list_laws.proofs.Values.{value_of, from_value}
use Rattle.match_laws.proofs.Walk.{NoneBetween}
use Rattle.match_laws.proofs.NeedLists.{server}
use Rattle.flux_laws.proofs.Valid.{is_node_type}
use Rattle.prune_laws.proofs.Demanded.{any_item}
use Rattle.dfu_match.specs.Searches.{Covers, IsKindOfNeed}
use Rattle.dfu_match.specs.Tables.{IsNodesKind}
use Rattle.dfu_match.specs.Walks.{ServesNone}

module _ (g : ResourceGraph) (names : List (List ℕ)) (valid : IsValidGraph g names) where
  -- the whole graph
  pub covers_all : (count : ℕ) → count ≡ length g.vertices → Covers g.vertices Everywhere 0 count
  covers_all count e v lt = (λ h. (omega arith, omega arith), λ h. lt)

  -- what lies below a vertex
  pub covers_below : (u past : ℕ) → IsPast g.vertices u past → Covers g.vertices (Beneath u) (u + 1) past
  covers_below u past p v lt = (
    λ h. (let b = below_to g.vertices (parents_first g valid.preorder) v u h.1 in (
      let le : u ≤ v = below_le g.vertices (parents_first g valid.preorder) v u b.0 in let ne : v ≢ u = b.1 in
          omega arith,
      p.whole v lt b.0,
    )),
    λ h. (
      lt,
      (let lo : u + 1 ≤ v = h.0 in below_from g.vertices (parents_first g valid.preorder) v u
          (λ e. omega arith) (p.covered v (omega arith) h.1)),
    ),
  )

  kind_to : (k : ℕ) (name : List ℕ) (x : Option Vertex) → slice_get g.kinds k ≡ Some name →
      IsSomeAnd x (λ y. slice_get g.kinds y.kind ≡ Some name) → IsSomeAnd x (λ y. y.kind ≡ k)
  kind_to k name None e h = elim h [ ]
  kind_to k name (Some y) e h = valid.kinds.apart y.kind k (some_of (slice_get g.kinds y.kind) name h) (h ∙ sym e)
    where
      some_of : (o : Option (List ℕ)) (n : List ℕ) → o ≡ Some n → IsSome o
      some_of None n f = absurd (cc)
      some_of (Some m) n f = search

  kind_from : (k : ℕ) (name : List ℕ) (x : Option Vertex) → slice_get g.kinds k ≡ Some name →
      IsSomeAnd x (λ y. y.kind ≡ k) → IsSomeAnd x (λ y. slice_get g.kinds y.kind ≡ Some name)
  kind_from k name None e h = elim h [ ]
  kind_from k name (Some y) e h = ap (slice_get g.kinds) h ∙ e

  node_from : (v : ℕ) → HasType g (codes "node") v → IsNode g.vertices v
  node_from v h = at_vertex (slice_get g.vertices v) refl h
    where
      at_vertex : (x : Option Vertex) → slice_get g.vertices v ≡ x →
          IsSomeAnd x (λ y. slice_get g.kinds y.kind ≡ Some (codes "node")) → IsNode g.vertices v
      at_vertex None e k = elim k [ ]
      at_vertex (Some y) e k = (valid.nodes v y e).1 h

  -- nodes are the vertices of the type called node
  pub node_kind : (k : ℕ) → slice_get g.kinds k ≡ Some (codes "node") → (v : ℕ) →
      (IsNode g.vertices v ↔ HasKind g.vertices k v)
  node_kind k e v = (
    λ h. kind_to k (codes "node") (slice_get g.vertices v) e (is_node_type g names valid v h),
    λ h. node_from v (kind_from k (codes "node") (slice_get g.vertices v) e h),
  )

  -- so each vertex of a node's kind is a node
  pub alike_node : (u v kind : ℕ) → HasKind g.vertices kind v → IsNode g.vertices v → HasKind g.vertices kind u →
      IsNode g.vertices u
  alike_node u v kind is node there =
      (node_kind kind (named (slice_get g.vertices v) is (is_node_type g names valid v node)) u).1 there
    where
      named : (x : Option Vertex) → IsSomeAnd x (λ y. y.kind ≡ kind) →
          IsSomeAnd x (λ y. slice_get g.kinds y.kind ≡ Some (codes "node")) →
          slice_get g.kinds kind ≡ Some (codes "node")
      named None h k = elim h [ ]
      named (Some y) h k = ap (slice_get g.kinds) (sym h) ∙ k

  -- and there are none where no type is
  pub no_node : ((k : ℕ) → slice_get g.kinds k ≢ Some (codes "node")) → (v : ℕ) → IsNode g.vertices v → ⊥
  no_node never v h = at_vertex (slice_get g.vertices v) (is_node_type g names valid v h)
    where
      at_vertex : (x : Option Vertex) → IsSomeAnd x (λ y. slice_get g.kinds y.kind ≡ Some (codes "node")) → ⊥
      at_vertex None k = elim k [ ]
      at_vertex (Some y) k = never y.kind k

-- a test holds of an item of the list
item_any : (test : Vertex → Bool) (xs : List Vertex) (i : ℕ) (x : Vertex) → slice_get xs i ≡ Some x → IsTrue (test x) →
    IsTrue (list_any test xs)
item_any test [] i x e h = absurd (cc)
item_any test (y ∷ ys) zero x e h =
    let same : y ≡ x = cc in or_left (test y) (list_any test ys) (subst (λ (z : Vertex). IsTrue (test z)) (sym same) h)
item_any test (y ∷ ys) (suc i) x e h = or_right (test y) (list_any test ys) (item_any test ys i x e h)

module _ (g : ResourceGraph) (names : List (List ℕ)) (valid : IsValidGraph g names) where
  -- the type called node is the kind of nodes
  pub nodes_told : (nodes : Option ℕ) → IsNamedKind g (codes "node") nodes → IsNodesKind g.vertices nodes
  nodes_told None none kind = (
    λ t. absurd (let r = any_item (λ x. (x.kind == kind) && is_some x.rank) g.vertices t in
        no_node g names valid none r.0 (from_value (slice_get g.vertices r.0) (λ x. is_some x.rank ≡ true) r.1 r.2
        (and_parts (r.1.kind == kind) (is_some r.1.rank) r.3).1)),
    λ e. absurd (cc),
  )
  nodes_told (Some k) is kind = (
    λ t. (let r = any_item (λ x. (x.kind == kind) && is_some x.rank) g.vertices t in
        let b = and_parts (r.1.kind == kind) (is_some r.1.rank) r.3 in
        let node = from_value (slice_get g.vertices r.0) (λ x. is_some x.rank ≡ true) r.1 r.2 b.1 in
        let own = value_of (slice_get g.vertices r.0) (λ x. x.kind ≡ k) ((node_kind g names valid k is r.0).0 node) in
        let same : own.0 ≡ r.1 = (let both : Some own.0 ≡ Some r.1 = sym own.1 ∙ r.2 in cc) in
        let first : r.1.kind ≡ k = ap (λ x. x.kind) (sym same) ∙ own.2 in
        ap Some (sym first ∙ eqb-true r.1.kind kind b.0)),
    λ e. (let same : k ≡ kind = cc in
        let used = valid.kinds.used k (slice_get_within g.kinds k (codes "node") is) in
        let node = value_of (slice_get g.vertices used.0) (λ x. is_some x.rank ≡ true)
        ((node_kind g names valid k is used.0).1 used.1) in
        let own = value_of (slice_get g.vertices used.0) (λ x. x.kind ≡ k) used.1 in
        let one : own.0 ≡ node.0 = (let both : Some own.0 ≡ Some node.0 = sym own.1 ∙ node.1 in cc) in
        item_any (λ x. (x.kind == kind) && is_some x.rank) g.vertices used.0 node.0 node.1
        (and_from (node.0.kind == kind) (is_some node.0.rank)
        (eq-eqb node.0.kind kind (ap (λ x. x.kind) (sym one) ∙ (own.2 ∙ same))) node.2)),
  )

module _ (vertices : List Vertex) (ok : Claim → Type 0) (scope : Scope) (need : Need) where
  abbrev can : ℕ → ℕ → Type 0
  can = CanServe vertices ok scope need

  -- no vertex before the scope serves
  pub none_before : (from to : ℕ) → Covers vertices scope from to → NoneBetween can 0 from
  none_before from to cover v q lo hi some c =
      let s = server vertices ok scope need v q c in
      let within : from ≤ v = ((cover v (in_graph vertices scope v s.1)).0 s.1).0 in omega arith

  -- nor one that the walk passes over
  pub none_skipped : (at v : ℕ) → ServesNone vertices ok need at v → NoneBetween can at v
  none_skipped at v none u q lo hi some c = none scope u q lo hi some c

  -- nor one from where the walk finds none
  pub none_after : (from at to : ℕ) → Covers vertices scope from to → ServesNone vertices ok need at to →
      (v q : ℕ) → at ≤ v → 1 ≤ q → can v q → ⊥
  none_after from at to cover none v q lo some c =
      let s = server vertices ok scope need v q c in
      none scope v q lo ((cover v (in_graph vertices scope v s.1)).0 s.1).1 some c

  -- nor any where the need has no kind
  pub none_at_all : IsKindOfNeed vertices need None → (v q : ℕ) → can v q → ⊥
  none_at_all never v q c = never v (server vertices ok scope need v q c).0

  -- the vertex that the walk finds is of the need, and in the scope
  pub found : (kind from at to v : ℕ) → Covers vertices scope from to → from ≤ at → to ≤ length vertices →
      IsKindOfNeed vertices need (Some kind) → HasKind vertices kind v × (at ≤ v) × (v < to) →
      IsOfNeed vertices need v × IsIn vertices scope v
  found kind from at to v cover lo hi of_kind is =
      let low : at ≤ v = is.1 in
      let high : v < to = is.2 in
      ((of_kind v).1 is.0, (cover v (omega arith)).1 (omega arith, high))
