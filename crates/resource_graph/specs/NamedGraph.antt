-- A graph with the texts of its vertices (RFC 4).
use Rattle.std.specs.Prelude.{◌≡◌, ℕ, List, [], ◌++◌, length, reverse, slice_get, unwrap_or, codes}
use Rattle.std.specs.List.{flat_map}
use Rattle.flux_defs.specs.declared.vertices.Vertex.{Vertex}
use Rattle.flux_defs.specs.Graph.{ResourceGraph}
use Rattle.resource_graph.specs.Chains.{chain_of}
use Rattle.flux_defs.specs.ValidGraph.{IsValidGraph}

-- a graph, and by the number of the vertex: its name, its basename, its unit and its properties
pub record NamedGraph : Type 0 where
  pub resources : ResourceGraph
  pub names : List (List ℕ)
  pub bases : List (List ℕ)
  pub units : List (List ℕ)
  pub properties : List (List (List ℕ))

-- its vertices
abbrev pub vertices_of : NamedGraph → List Vertex
vertices_of g = g.resources.vertices

-- the graph is valid, and each vertex has its texts
pub record IsWhole (g : NamedGraph) : Type 0 where
  pub valid : IsValidGraph g.resources g.names
  pub bases : length g.bases ≡ length g.resources.vertices
  pub units : length g.units ≡ length g.resources.vertices
  pub properties : length g.properties ≡ length g.resources.vertices

-- a slash and the vertex's name
abbrev pub name_step : List (List ℕ) → ℕ → List ℕ
name_step names v = codes "/" ++ unwrap_or (slice_get names v) []

-- a vertex's path: a slash and the name of each vertex from the root down to it
abbrev pub path_text : NamedGraph → ℕ → List ℕ
path_text g v = flat_map (name_step g.names) (reverse (chain_of g.resources.vertices v))
