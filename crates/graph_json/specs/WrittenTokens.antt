-- The tokens of parts of a graph.
use Rattle.std.specs.Prelude.{ℕ, List, [], ◌∷◌, ◌++◌, Option, Some, None, slice_get, codes}
use Rattle.std.specs.Option.{option_map_or}
use Rattle.json.specs.Token.{Token, key, string}
use Rattle.json_written.specs.Tokens.{value_tokens}
use Rattle.flux_defs.specs.declared.vertices.Vertex.{Vertex}
use Rattle.resource_graph.specs.NamedGraph.{NamedGraph}
use Rattle.graph_json.specs.WrittenGraph.{number_or_none, text_at, paths_data, edge_data, node_data}

-- the tokens of an object's keys with empty texts
abbrev pub keys_tokens : List (List ℕ) → List Token
keys_tokens [] = []
keys_tokens (k ∷ ks) = key k ∷ string [] ∷ keys_tokens ks

-- the tokens of a vertex's metadata before its properties
abbrev pub names_tokens : NamedGraph → ℕ → Vertex → List Token
names_tokens g v x =
    key (codes "basename") ∷ string (text_at g.bases v) ∷ key (codes "id") ∷ (value_tokens (number_or_none x.id)
    ++ key (codes "name") ∷ string (text_at g.names v) ∷ key (codes "paths") ∷ value_tokens (paths_data g v))

-- the tokens of the edge to vertex v, if it has a parent
abbrev pub edge_tokens : Option ℕ → ℕ → List Token
edge_tokens None v = []
edge_tokens (Some parent) v = value_tokens (edge_data parent v)

-- the tokens of the vertex with this number
abbrev pub node_tokens : NamedGraph → ℕ → List Token
node_tokens g v = option_map_or (λ x. value_tokens (node_data g v x)) (slice_get g.resources.vertices v) []
