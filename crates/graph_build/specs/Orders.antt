-- Lists of vertices that hang on one root, and the orders of their indices.
use Rattle.std.specs.Prelude.{◌≡◌, ℕ, suc, ◌-◌, ◌<◌, ◌≤◌, List, length, reverse, Some, None, slice_get, slice_index}
use Rattle.std.specs.Prelude.{IsTrue, Vec}
use Rattle.std.specs.declared.alloc.Global.{Global}
use Rattle.flux_defs.specs.declared.limits.TheConstants.{MOST_LEVELS}
use Rattle.flux_defs.specs.declared.vertices.Vertex.{Vertex}
use Rattle.flux_defs.specs.Graph.{parent_of, chain, is_at_or_below}
use Rattle.resource_graph.specs.Chains.{chain_of, KnowsParents}

-- The vertices hang on one root, whatever their order: each parent is one of them, no chain of parents is longer than
-- the graph,
-- none has more than 16 vertices, and exactly one vertex has no parent.
pub record IsRooted (vertices : List Vertex) : Type 0 where
  pub known : KnowsParents vertices
  pub ends : (v : ℕ) → v < length vertices → length (chain vertices (suc (length vertices)) (Some v)) ≤ length vertices
  pub short : (v : ℕ) → v < length vertices → length (chain_of vertices v) ≤ MOST_LEVELS
  pub root : (r : ℕ) × (r < length vertices) × (parent_of vertices r ≡ None)
  pub alone : (u v : ℕ) → u < length vertices → v < length vertices → parent_of vertices u ≡ None →
      parent_of vertices v ≡ None → u ≡ v

-- the list has each number below the count at exactly one index
pub record IsOrderOf (count : ℕ) (order : List ℕ) : Type 0 where
  pub as_many : length order ≡ count
  pub known : (k i : ℕ) → slice_get order k ≡ Some i → i < count
  pub apart : (j k i : ℕ) → slice_get order j ≡ Some i → slice_get order k ≡ Some i → j ≡ k
  pub each : (i : ℕ) → i < count → (k : ℕ) × (slice_get order k ≡ Some i)

-- The list has the vertices in preorder, siblings by their indices: the first has no parent, the parent of each other
-- one is the vertex
-- before it or one above that, and of two vertices with one parent the lesser one stands first.
pub record IsPreorderOf (vertices : List Vertex) (order : List ℕ) : Type 0 where
  pub indices : IsOrderOf (length vertices) order
  pub first : (i : ℕ) → slice_get order 0 ≡ Some i → parent_of vertices i ≡ None
  pub next : (k i j : ℕ) → slice_get order k ≡ Some i → slice_get order (suc k) ≡ Some j → (p : ℕ)
      × (parent_of vertices j ≡ Some p) × IsTrue (is_at_or_below vertices i p)
  pub before : (m k p j : ℕ) → slice_get order m ≡ Some p → slice_get order k ≡ Some j →
      parent_of vertices j ≡ Some p → m < k
  pub siblings : (j k u v : ℕ) → j < k → slice_get order j ≡ Some u → slice_get order k ≡ Some v →
      parent_of vertices u ≡ parent_of vertices v → u < v

-- each vertex's chain from the root down
pub record HasPaths (vertices : List Vertex) (most : ℕ) (paths : List (Vec ℕ Global)) : Type 0 where
  pub as_many : length paths ≡ most
  pub each : (v : ℕ) (path : Vec ℕ Global) → slice_get paths v ≡ Some path → path.items ≡ reverse (chain_of vertices v)

-- the last number of each list
pub record HasEnds (lists : List (Vec ℕ Global)) (most : ℕ) (ends : List ℕ) : Type 0 where
  pub as_many : length ends ≡ most
  pub each : (k e : ℕ) (list : Vec ℕ Global) → slice_get ends k ≡ Some e → slice_get lists k ≡ Some list →
      e ≡ slice_index list.items (length list.items - 1)

-- no list is empty
abbrev pub NoneIsEmpty : List (Vec ℕ Global) → Type 0
NoneIsEmpty lists = (k : ℕ) (list : Vec ℕ Global) → slice_get lists k ≡ Some list → 0 < length list.items
