-- The list of vertices that a graph itself is.
use Rattle.std.specs.Prelude.{ℕ, suc, List, [], ◌∷◌}
use Rattle.flux_defs.specs.declared.vertices.Vertex.{Vertex}
use Rattle.resource_graph.specs.NamedGraph.{NamedGraph}
use Rattle.resource_graph.specs.Tables.{name_at, base_at, unit_at, properties_at}
use Rattle.graph_build.specs.declared.raw.RawVertex.{RawVertex}

-- vertex v, which is x, with its texts
abbrev pub own_vertex : NamedGraph → ℕ → Vertex → RawVertex
own_vertex g v x = record {
  kind = x.kind;
  base = base_at g v;
  name = name_at g v;
  id = x.id;
  rank = x.rank;
  size = x.size;
  unit = unit_at g v;
  properties = properties_at g v;
  parent = x.parent;
}

-- the vertices from v on
abbrev pub own_list_from : NamedGraph → ℕ → List Vertex → List RawVertex
own_list_from g v [] = []
own_list_from g v (x ∷ xs) = own_vertex g v x ∷ own_list_from g (suc v) xs

-- the vertices of a graph, in its order, with its kinds and parents
abbrev pub own_list : NamedGraph → List RawVertex
own_list g = own_list_from g 0 g.resources.vertices
