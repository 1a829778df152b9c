-- The resource graph (RFC 4): vertices that contain one another, as a tree.
use Rattle.std.specs.Prelude.{◌≡◌, ℕ, zero, suc, ◌<◌, Bool, true, false, not, ◌&&◌, ◌==◌, nat_eq, List, [], ◌∷◌, length}
use Rattle.std.specs.Prelude.{Option, Some, None, is_some, slice_get, option_and_then, IsTrue}
use Rattle.std.specs.Option.{IsSomeAnd, option_map_or}
use Rattle.std.specs.List.{list_any}
use Rattle.flux_defs.specs.declared.vertices.Vertex.{Vertex}

-- A graph: what its types are called, and its vertices, each of which has a type's number as its kind.
pub record ResourceGraph : Type 0 where
  pub kinds : List (List ℕ)
  pub vertices : List Vertex

-- the vertex that contains v, where there is one
abbrev pub parent_of : List Vertex → ℕ → Option ℕ
parent_of vertices v = option_and_then (λ x. x.parent) (slice_get vertices v)

-- the chain of parents from a vertex on, that vertex first, at most so many
abbrev pub chain : List Vertex → ℕ → Option ℕ → List ℕ
chain vertices zero v = []
chain vertices (suc most) None = []
chain vertices (suc most) (Some v) = v ∷ chain vertices most (parent_of vertices v)

-- u is among the first so many of the chain
abbrev pub has_on_chain : List Vertex → ℕ → Option ℕ → ℕ → Bool
has_on_chain vertices most v u = list_any (nat_eq u) (chain vertices most v)

-- v is u or below it: u stands on v's chain of parents. No chain is longer than the graph.
unfoldable pub is_at_or_below : List Vertex → ℕ → ℕ → Bool
is_at_or_below vertices v u = has_on_chain vertices (length vertices) (Some v) u

-- v is below u
abbrev pub is_below : List Vertex → ℕ → ℕ → Bool
is_below vertices v u = is_at_or_below vertices v u && not (v == u)

-- v is a vertex of this kind
abbrev pub HasKind : List Vertex → ℕ → ℕ → Type 0
HasKind vertices kind v = IsSomeAnd (slice_get vertices v) (λ x. x.kind ≡ kind)

-- some lower vertex is below some upper one
abbrev pub Contains : List Vertex → (ℕ → Type 0) → (ℕ → Type 0) → Type 0
Contains vertices Upper Lower = (u : ℕ) × (v : ℕ) × Upper u × Lower v × IsTrue (is_below vertices v u)

-- v is a node: exactly the nodes have a rank
abbrev pub IsNode : List Vertex → ℕ → Type 0
IsNode vertices v = IsSomeAnd (slice_get vertices v) (λ x. is_some x.rank ≡ true)

-- how many units v has; none past the graph
abbrev pub size_of : List Vertex → ℕ → ℕ
size_of vertices v = option_map_or (λ x. x.size) (slice_get vertices v) 0

-- a pool type: some vertex of it has a size other than 1
abbrev pub is_pool_kind : List Vertex → ℕ → Bool
is_pool_kind vertices kind = list_any (λ x. (x.kind == kind) && not (x.size == 1)) vertices

-- v is a vertex of a pool type
abbrev pub is_pool : List Vertex → ℕ → Bool
is_pool vertices v = option_map_or (λ x. is_pool_kind vertices x.kind) (slice_get vertices v) false

-- where vertices are looked for: everywhere, or among those below a vertex
pub data Scope : Type 0 where
  Everywhere : Scope
  Beneath : (u : ℕ) → Scope

-- v is a vertex of the scope
abbrev pub IsIn : List Vertex → Scope → ℕ → Type 0
IsIn vertices Everywhere v = v < length vertices
IsIn vertices (Beneath u) v = (v < length vertices) × IsTrue (is_below vertices v u)
