-- Which graphs are valid (RFC 4, in this project's profile): a conjunction over single vertices and pairs of them.
use Rattle.std.specs.Prelude.{◌≡◌, ◌≢◌, ℕ, suc, ◌<◌, ◌≤◌, ◌⊎◌, ◌↔◌, false, List, length, Some, None, slice_get, codes}
use Rattle.std.specs.Prelude.{IsTrue, IsSome}
use Rattle.std.specs.Option.{IsSomeAnd}
use Rattle.flux_defs.specs.declared.vertices.Vertex.{Vertex}
use Rattle.flux_defs.specs.declared.limits.TheConstants.{GREATEST_NUMBER, MOST_LEVELS, MOST_TYPES, MOST_VERTICES}
use Rattle.flux_defs.specs.Graph.{ResourceGraph, parent_of, chain, is_at_or_below, is_below, HasKind, IsNode, is_pool}

-- v is a vertex whose type is called so
abbrev pub HasType : ResourceGraph → List ℕ → ℕ → Type 0
HasType g name v = IsSomeAnd (slice_get g.vertices v) (λ x. slice_get g.kinds x.kind ≡ Some name)

-- v is a vertex with this id
abbrev pub HasId : ResourceGraph → ℕ → ℕ → Type 0
HasId g id v = IsSomeAnd (slice_get g.vertices v) (λ x. x.id ≡ Some id)

-- v is a vertex with this rank
abbrev pub HasRank : ResourceGraph → ℕ → ℕ → Type 0
HasRank g rank v = IsSomeAnd (slice_get g.vertices v) (λ x. x.rank ≡ Some rank)

-- every vertex has this
abbrev pub EachVertex : ResourceGraph → (ℕ → Vertex → Type 0) → Type 0
EachVertex g P = (v : ℕ) (x : Vertex) → slice_get g.vertices v ≡ Some x → P v x

-- types are numbered from 0 by their first vertex: each has a vertex, and before each vertex every lesser type has one
pub record NumbersKinds (g : ResourceGraph) : Type 0 where
  pub known : EachVertex g (λ v x. x.kind < length g.kinds)
  pub apart : (j k : ℕ) → IsSome (slice_get g.kinds j) → slice_get g.kinds j ≡ slice_get g.kinds k → j ≡ k
  pub used : (k : ℕ) → k < length g.kinds → (v : ℕ) × HasKind g.vertices k v
  pub rising : EachVertex g (λ v x. (k : ℕ) → k < x.kind → (u : ℕ) × (u < v) × HasKind g.vertices k u)

-- vertices stand in preorder: the first has no parent, and the parent of each other one is the vertex before it or one
-- above that
pub record StandsInPreorder (g : ResourceGraph) : Type 0 where
  pub some : 0 < length g.vertices
  pub root : parent_of g.vertices 0 ≡ None
  pub next : (v : ℕ) → suc v < length g.vertices →
      (p : ℕ) × (parent_of g.vertices (suc v) ≡ Some p) × IsTrue (is_at_or_below g.vertices v p)

-- v is a core or a gpu
abbrev pub IsDevice : ResourceGraph → ℕ → Type 0
IsDevice g v = HasType g (codes "core") v ⊎ HasType g (codes "gpu") v

-- cores and gpus: each is in a node and has an id, and no two of one type in one node have the same
pub record NumbersDevices (g : ResourceGraph) : Type 0 where
  pub housed : (v : ℕ) → IsDevice g v → (n : ℕ) × IsNode g.vertices n × IsTrue (is_below g.vertices v n)
  pub named : (v : ℕ) → IsDevice g v → (id : ℕ) × HasId g id v
  pub apart : (v u n id kind : ℕ) →
      IsDevice g v → HasKind g.vertices kind v → HasKind g.vertices kind u → IsNode g.vertices n →
      IsTrue (is_below g.vertices v n) → IsTrue (is_below g.vertices u n) → HasId g id v → HasId g id u → v ≡ u

-- sizes: a pool contains nothing, and nodes, cores and gpus are whole; no size is past the greatest number
pub record HasFairSizes (g : ResourceGraph) : Type 0 where
  pub leaves : (v p : ℕ) → parent_of g.vertices v ≡ Some p → is_pool g.vertices p ≡ false
  pub whole : EachVertex g (λ v x. IsNode g.vertices v ⊎ IsDevice g v → x.size ≡ 1)
  pub most : EachVertex g (λ v x. x.size ≤ GREATEST_NUMBER)

-- The graph is valid; `names` are the names of its vertices, by number.
pub record IsValidGraph (g : ResourceGraph) (names : List (List ℕ)) : Type 0 where
  pub few : length g.vertices ≤ MOST_VERTICES
  pub few_kinds : length g.kinds ≤ MOST_TYPES
  pub kinds : NumbersKinds g
  pub preorder : StandsInPreorder g
  -- from the root to each are at most 16 vertices, both counted
  pub shallow : EachVertex g (λ v x. length (chain g.vertices (length g.vertices) (Some v)) ≤ MOST_LEVELS)
  -- no vertex is below one of its own type
  pub unnested : (v u kind : ℕ) →
      HasKind g.vertices kind v → HasKind g.vertices kind u → IsTrue (is_below g.vertices v u) → ⊥
  -- no type is called slot
  pub unreserved : EachVertex g (λ v x. slice_get g.kinds x.kind ≢ Some (codes "slot"))
  pub sizes : HasFairSizes g
  pub devices : NumbersDevices g
  -- exactly the vertices of type node have a rank, no two the same
  pub nodes : EachVertex g (λ v x. IsNode g.vertices v ↔ HasType g (codes "node") v)
  pub ranks : (v u rank : ℕ) → HasRank g rank v → HasRank g rank u → v ≡ u
  -- each vertex has a name; siblings differ in theirs, and so do nodes
  pub named : length names ≡ length g.vertices
  pub siblings : (v u : ℕ) → IsSome (parent_of g.vertices v) →
      parent_of g.vertices v ≡ parent_of g.vertices u → slice_get names v ≡ slice_get names u → v ≡ u
  pub hosts : (v u : ℕ) → IsNode g.vertices v → IsNode g.vertices u → slice_get names v ≡ slice_get names u → v ≡ u
