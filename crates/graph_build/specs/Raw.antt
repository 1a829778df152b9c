-- The list of vertices that a graph is built from, and what is built.
use Rattle.std.specs.Prelude.{◌≡◌, ℕ, ◌<◌, Bool, false, ◌&&◌, cond, List, map, length, Option, Some, None, is_some}
use Rattle.std.specs.Prelude.{slice_get, take, count_by, codes, IsSome, MatchOption, option_and_then}
use Rattle.std.specs.Option.{IsSomeAnd, option_map, option_map_or}
use Rattle.std.specs.List.{list_any}
use Rattle.std.specs.Str.{bytes_eq}
use Rattle.flux_defs.specs.declared.vertices.Vertex.{Vertex}
use Rattle.flux_defs.specs.Graph.{ResourceGraph, parent_of}
use Rattle.graph_build.specs.Orders.{IsOrderOf}
use Rattle.resource_graph.specs.NamedGraph.{NamedGraph, IsWhole}
use Rattle.graph_build.specs.declared.raw.RawVertex.{RawVertex}

-- a raw vertex without its texts
abbrev pub shape_of : RawVertex → Vertex
shape_of r = record { kind = r.kind; size = r.size; parent = r.parent; id = r.id; rank = r.rank }

-- the raw list as a graph whose vertices stand in any order
abbrev pub raw_graph : List (List ℕ) → List RawVertex → ResourceGraph
raw_graph kinds raw = record { kinds = kinds; vertices = map shape_of raw }

-- the names in the raw list
abbrev pub raw_names : List RawVertex → List (List ℕ)
raw_names raw = map (λ r. r.name) raw

-- no two types are called the same
abbrev pub KindsApart : List (List ℕ) → Type 0
KindsApart kinds = (j k : ℕ) → IsSome (slice_get kinds j) → slice_get kinds j ≡ slice_get kinds k → j ≡ k

-- the vertex is of the type node
abbrev pub is_node_of : List (List ℕ) → Vertex → Bool
is_node_of kinds x = option_map_or (bytes_eq (codes "node")) (slice_get kinds x.kind) false

-- some node has a rank
abbrev pub some_ranked : List (List ℕ) → List Vertex → Bool
some_ranked kinds vertices = list_any (λ x. is_node_of kinds x && is_some x.rank) vertices

-- how many of these vertices are nodes
abbrev pub nodes_among : List (List ℕ) → List Vertex → List ℕ → ℕ
nodes_among kinds vertices indices =
    count_by (λ i. option_map_or (is_node_of kinds) (slice_get vertices i) false) indices

-- The rank of the vertex x with this number: none where it is no node; its own where some node has one; and else the
-- number of nodes before it.
abbrev pub rank_of : List (List ℕ) → List Vertex → List ℕ → ℕ → Vertex → Option ℕ
rank_of kinds vertices order k x =
    cond (is_node_of kinds x) (cond (some_ranked kinds vertices) x.rank
    (Some (nodes_among kinds vertices (take k order)))) None

-- y is x with the numbers of the built graph: its type is called the same, and its parent is the vertex that x names
pub record IsRenumbered (kinds : List (List ℕ)) (g : ResourceGraph) (order : List ℕ) (x y : Vertex) : Type 0 where
  pub kind : slice_get g.kinds y.kind ≡ slice_get kinds x.kind
  pub size : y.size ≡ x.size
  pub id : y.id ≡ x.id
  pub parent : MatchOption x.parent (y.parent ≡ None) (λ i. IsSomeAnd y.parent (λ p. slice_get order p ≡ Some i))

-- `order` has for each number of the built graph the index of its vertex in the raw list
pub record IsArranged (kinds : List (List ℕ)) (vertices : List Vertex) (order : List ℕ) (g : ResourceGraph) : Type 0
  where
    pub indices : IsOrderOf (length vertices) order
    pub as_many : length g.vertices ≡ length vertices
    pub renumbered : (k i : ℕ) (x y : Vertex) → slice_get order k ≡ Some i → slice_get vertices i ≡ Some x →
        slice_get g.vertices k ≡ Some y → IsRenumbered kinds g order x y
    pub ranks : (k i : ℕ) (x y : Vertex) → slice_get order k ≡ Some i → slice_get vertices i ≡ Some x →
        slice_get g.vertices k ≡ Some y → y.rank ≡ rank_of kinds vertices order k x

-- siblings stand in the order of the raw list
abbrev pub AreSiblingsInOrder : List ℕ → ResourceGraph → Type 0
AreSiblingsInOrder order g = (j k u v : ℕ) → j < k → parent_of g.vertices j ≡ parent_of g.vertices k →
    slice_get order j ≡ Some u → slice_get order k ≡ Some v → u < v

-- each vertex has the texts of its raw vertex
pub record AreTextsOf (raw : List RawVertex) (order : List ℕ) (g : NamedGraph) : Type 0 where
  pub names : (k : ℕ) → slice_get g.names k ≡ option_and_then (λ i. option_map (λ r. r.name) (slice_get raw i))
      (slice_get order k)
  pub bases : (k : ℕ) → slice_get g.bases k ≡ option_and_then (λ i. option_map (λ r. r.base) (slice_get raw i))
      (slice_get order k)
  pub units : (k : ℕ) → slice_get g.units k ≡ option_and_then (λ i. option_map (λ r. r.unit) (slice_get raw i))
      (slice_get order k)
  pub properties : (k : ℕ) → slice_get g.properties k ≡ option_and_then
      (λ i. option_map (λ r. r.properties) (slice_get raw i)) (slice_get order k)

-- The graph is built from the raw list: valid, and so with its vertices in preorder and its types by their first
-- vertices, siblings in the
-- order of the list, each vertex with what its raw vertex has.
pub record IsBuiltFrom (kinds : List (List ℕ)) (raw : List RawVertex) (g : NamedGraph) : Type 0 where
  pub whole : IsWhole g
  pub order : List ℕ
  pub arranged : IsArranged kinds (map shape_of raw) order g.resources
  pub siblings : AreSiblingsInOrder order g.resources
  pub texts : AreTextsOf raw order g
