-- What is written of a graph.
use Rattle.std.specs.Prelude.{ℕ, ◌<◌, ◌^◌, suc, IfSome, negsuc, zero, List, [], ◌∷◌, map, Option, Some}
use Rattle.std.specs.Prelude.{None, unwrap_or, slice_get, codes, decimal}
use Rattle.std.specs.List.{AllByRecursion}
use Rattle.serde_json.specs.Data.{Num, Data, number, string, array, object, unsigned, negative, Items, no_items, item}
use Rattle.serde_json.specs.Data.{Members, no_members, member}
use Rattle.serde_json.specs.Written.{compact_text}
use Rattle.flux_defs.specs.declared.vertices.Vertex.{Vertex}
use Rattle.resource_graph.specs.NamedGraph.{NamedGraph, path_text}
use Rattle.resource_graph.specs.Tables.{properties_at}
use Rattle.json_written.specs.Texts.{readable}
use Rattle.graph_json.specs.Nodes.{in_order}

-- a number, or -1 for none
abbrev pub or_none : Option ℕ → Num
or_none None = negative (negsuc zero)
or_none (Some n) = unsigned n

abbrev pub number_or_none : Option ℕ → Data
number_or_none o = number (or_none o)

-- an object of these keys, with empty texts
abbrev pub keys_object : List (List ℕ) → Members
keys_object [] = no_members
keys_object (k ∷ ks) = member k (string []) (keys_object ks)

-- the text that the list has for vertex v
abbrev pub text_at : List (List ℕ) → ℕ → List ℕ
text_at texts v = readable (unwrap_or (slice_get texts v) [])

-- the properties of vertex v, in byte order, each once
abbrev pub written_properties : NamedGraph → ℕ → List (List ℕ)
written_properties g v = in_order (map readable (properties_at g v))

-- the one path of vertex v
abbrev pub paths_data : NamedGraph → ℕ → Data
paths_data g v = object (member (codes "containment") (string (readable (path_text g v))) no_members)

-- the metadata of vertex v, which is x
abbrev pub metadata_data : NamedGraph → ℕ → Vertex → Data
metadata_data g v x = object (
    member (codes "basename") (string (text_at g.bases v)) (
    member (codes "id") (number_or_none x.id) (
    member (codes "name") (string (text_at g.names v)) (
    member (codes "paths") (paths_data g v) (
    member (codes "properties") (object (keys_object (written_properties g v))) (
    member (codes "rank") (number_or_none x.rank) (
    member (codes "size") (number (unsigned x.size)) (
    member (codes "type") (string (text_at g.resources.kinds x.kind)) (
    member (codes "unit") (string (text_at g.units v)) no_members)))))))))

-- the node that vertex v, which is x, is written as
abbrev pub node_data : NamedGraph → ℕ → Vertex → Data
node_data g v x =
    object (member (codes "id") (string (decimal v)) (member (codes "metadata") (metadata_data g v x) no_members))

-- the nodes of the vertices from v on
abbrev pub nodes_data : NamedGraph → ℕ → List Vertex → Items
nodes_data g v [] = no_items
nodes_data g v (x ∷ xs) = item (node_data g v x) (nodes_data g (suc v) xs)

-- the metadata of every edge
abbrev pub contains_data : Data
contains_data = object
    (member (codes "name") (object (member (codes "containment") (string (codes "contains")) no_members)) no_members)

-- the edge to vertex v from its parent
abbrev pub edge_data : ℕ → ℕ → Data
edge_data parent v = object (
    member (codes "metadata") contains_data (
    member (codes "source") (string (decimal parent)) (
    member (codes "target") (string (decimal v)) no_members)))

abbrev pub with_edge : Option ℕ → ℕ → Items → Items
with_edge None v rest = rest
with_edge (Some parent) v rest = item (edge_data parent v) rest

-- the edges to the vertices from v on, one for each that has a parent
abbrev pub edges_data : ℕ → List Vertex → Items
edges_data v [] = no_items
edges_data v (x ∷ xs) = with_edge x.parent v (edges_data (suc v) xs)

-- the edges and the nodes of a graph
abbrev pub lists_data : NamedGraph → Data
lists_data g = object (
    member (codes "edges") (array (edges_data 0 g.resources.vertices)) (
    member (codes "nodes") (array (nodes_data g 0 g.resources.vertices)) no_members))

-- a graph as JSON
abbrev pub graph_data : NamedGraph → Data
graph_data g = object (member (codes "graph") (lists_data g) no_members)

-- the text of a graph: that JSON, with no space
unfoldable pub graph_text : NamedGraph → List ℕ
graph_text g = compact_text (graph_data g)

-- the numbers of a vertex have at most 64 bits
abbrev pub HasSmallNumbers : Vertex → Type 0
HasSmallNumbers x = (x.size < 2 ^ 64) × IfSome x.id (λ n. n < 2 ^ 64) × IfSome x.rank (λ n. n < 2 ^ 64)

-- and so have those of each vertex of a graph
abbrev pub HasAllSmallNumbers : NamedGraph → Type 0
HasAllSmallNumbers g = AllByRecursion HasSmallNumbers g.resources.vertices
