-- The types of a graph and of a request: their numbers, and which contain which.
use Rattle.std.specs.Prelude.{ℕ, Bool, ◌||◌, List, codes, bytes_eq}
use Rattle.flux_defs.specs.declared.vertices.Vertex.{Vertex}
use Rattle.flux_defs.specs.Graph.{ResourceGraph}
use Rattle.resource_graph.specs.NamedGraph.{NamedGraph}
use Rattle.resource_graph.specs.Tables.{contains_kind}
use Rattle.text_table.specs.Tables.{index_of, with_texts}
use Rattle.need_shape.specs.declared.raw.RawNeed.{RawNeed}
use Rattle.need_shape.specs.Requests.{types_in}

-- the vertices of a graph, and what the types are called, by number
pub record Types : Type 0 where
  pub vertices : List Vertex
  pub names : List (List ℕ)

-- the types of a graph with these names
abbrev pub types_at : NamedGraph → List (List ℕ) → Types
types_at graph names = record { vertices = graph.resources.vertices; names = names }

-- the types of the graph, and after them the others that the request names, each once, in the order in which it names
-- them
abbrev pub types_for : ResourceGraph → List RawNeed → Types
types_for g request = record { vertices = g.vertices; names = with_texts g.kinds (types_in request) }

-- the number of the type that is called so
abbrev pub number_of : Types → List ℕ → ℕ
number_of types kind = index_of types.names kind

-- whether the type of one name contains that of the other
abbrev pub contains : Types → List ℕ → List ℕ → Bool
contains types upper lower = contains_kind types.vertices (number_of types upper) (number_of types lower)

-- whether the type is that of nodes, or nodes contain it
abbrev pub is_inner : Types → List ℕ → Bool
is_inner types kind = bytes_eq kind (codes "node") || contains types (codes "node") kind

-- whether the type is that of nodes, or contains nodes
abbrev pub is_upper : Types → List ℕ → Bool
is_upper types kind = bytes_eq kind (codes "node") || contains types kind (codes "node")
