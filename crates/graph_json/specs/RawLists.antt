-- The raw vertices that the nodes and edges of a graph file are.
use Rattle.std.specs.Prelude.{ℕ, List, [], ◌∷◌, map, Option, unwrap_or}
use Rattle.std.specs.List.{fold}
use Rattle.graph_build.specs.declared.raw.RawVertex.{RawVertex}
use Rattle.text_table.specs.Tables.{with_text}
use Rattle.graph_json.specs.Nodes.{FileNode}
use Rattle.text_table.specs.Tables.{number_of}
use Rattle.graph_json.specs.Edges.{FileEdge, parent_of}
use Rattle.graph_json.specs.Ids.{ids_of}

-- the types of the nodes, in the order of their first nodes
abbrev pub kinds_of : List FileNode → List (List ℕ)
kinds_of nodes = fold with_text [] (map (λ x. x.kind) nodes)

-- the raw vertex that a node is, among these types and with this parent
abbrev pub vertex_of : List (List ℕ) → FileNode → Option ℕ → RawVertex
vertex_of kinds x parent = record {
  kind = unwrap_or (number_of kinds x.kind) 0;
  base = x.base;
  name = x.name;
  id = x.number;
  rank = x.rank;
  size = x.size;
  unit = x.unit;
  properties = x.properties;
  parent = parent;
}

-- the raw vertices of the nodes, in their order, with the parents that these edges give
abbrev pub vertices_of : List FileNode → List FileEdge → List RawVertex
vertices_of nodes edges = map (λ x. vertex_of (kinds_of nodes) x (parent_of (ids_of nodes) edges x.id)) nodes

-- two lists, item by item
abbrev pub zip_with : {A B C : Type 0} → (A → B → C) → List A → List B → List C
zip_with f [] ys = []
zip_with f (x ∷ xs) [] = []
zip_with f (x ∷ xs) (y ∷ ys) = f x y ∷ zip_with f xs ys
