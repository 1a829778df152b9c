-- What a valid graph says of needs.
use Rattle.std.proofs.Common.{◌≡◌, ℕ, true, List, Option, Some, None, slice_get, is_some, refl, sym, ◌∙◌, subst}
use Rattle.std.specs.Prelude.{IsSome, codes}
use Rattle.std.specs.Option.{IsSomeAnd}
use Rattle.flux_defs.specs.declared.vertices.Vertex.{Vertex}
use Rattle.flux_defs.specs.declared.requests.Need.{Vert', Pool, Spread'}
use Rattle.flux_defs.specs.Graph.{ResourceGraph, IsNode, HasKind}
use Rattle.flux_defs.specs.ValidGraph.{IsValidGraph, HasType}
use Rattle.flux_laws.proofs.Groups.{NoneNested}

module _ (g : ResourceGraph) (names : List (List ℕ)) (valid : IsValidGraph g names) where
  -- a vertex of which something holds is one of the list
  there : (P : Vertex → Type 0) (x : Option Vertex) → IsSomeAnd x P → (y : Vertex) × (x ≡ Some y) × P y
  there P None h = elim h [ ]
  there P (Some y) h = (y, refl, h)

  kind_named : (x : Option Vertex) (name : List ℕ) → IsSomeAnd x (λ y. slice_get g.kinds y.kind ≡ Some name) →
      (k : ℕ) × IsSomeAnd x (λ y. y.kind ≡ k) × (slice_get g.kinds k ≡ Some name)
  kind_named None name h = elim h [ ]
  kind_named (Some y) name h = (y.kind, refl, h)

  pub is_node_type : (v : ℕ) → IsNode g.vertices v → HasType g (codes "node") v
  is_node_type v h =
      let x = there (λ y. is_some y.rank ≡ true) (slice_get g.vertices v) h in
      (valid.nodes v x.0 x.1).0 h

  named_is_some : (o : Option (List ℕ)) (name : List ℕ) → o ≡ Some name → IsSome o
  named_is_some None name e = absurd (cc)
  named_is_some (Some n) name e = search

  -- nodes have one kind
  pub nodes_alike : (v u : ℕ) →
      IsNode g.vertices v → IsNode g.vertices u → (k : ℕ) × HasKind g.vertices k v × HasKind g.vertices k u
  nodes_alike v u hv hu =
      let a = kind_named (slice_get g.vertices v) (codes "node") (is_node_type v hv) in
      let b = kind_named (slice_get g.vertices u) (codes "node") (is_node_type u hu) in
      let same : b.0 ≡ a.0 =
      valid.kinds.apart b.0 a.0 (named_is_some (slice_get g.kinds b.0) (codes "node") b.2) (b.2 ∙ sym a.2) in
      (a.0, a.1, subst (λ (k : ℕ). HasKind g.vertices k u) same b.1)

  -- no vertex of a need is below another of it
  pub none_nested : NoneNested g.vertices
  none_nested (Vert' kind count hold m needs) v u hv hu h = valid.unnested v u kind hv hu h
  none_nested (Pool kind quantity) v u hv hu h = valid.unnested v u kind hv hu h
  none_nested (Spread' count m needs) v u hv hu h = let k = nodes_alike v u hv hu in valid.unnested v u k.0 k.1 k.2 h
