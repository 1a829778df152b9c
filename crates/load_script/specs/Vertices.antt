-- The graph of a load, as the list of vertices that it is built from: type by type, and each type by its numbers.
use Rattle.std.specs.Prelude.{ℕ, ◌+◌, ◌-◌, ◌/◌, ◌%◌, nat_lt, List, [], ◌∷◌, ◌++◌, map, codes, decimal, Option, Some}
use Rattle.std.specs.Prelude.{None, if◌then◌else◌}
use Rattle.std.specs.List.{range_with_len}
use Rattle.resource_graph.specs.NamedGraph.{NamedGraph}
use Rattle.graph_build.specs.declared.raw.RawVertex.{RawVertex}
use Rattle.graph_build.specs.Raw.{IsBuiltFrom}

abbrev pub load_kinds : List (List ℕ)
load_kinds = codes "cluster" ∷ codes "rack" ∷ codes "node" ∷ codes "core" ∷ codes "memory" ∷ []

-- a vertex of this type and id, of one unit, which is called by both
abbrev pub plain_vertex : (kind : ℕ) (base : List ℕ) (id : ℕ) (parent : Option ℕ) → RawVertex
plain_vertex kind base id parent = record {
  kind = kind;
  base = base;
  name = base ++ decimal id;
  id = Some id;
  rank = None;
  size = 1;
  unit = [];
  properties = [];
  parent = parent;
}

abbrev pub cluster : RawVertex
cluster = plain_vertex 0 (codes "cluster") 0 None

abbrev pub rack : ℕ → RawVertex
rack i = plain_vertex 1 (codes "rack") i (Some 0)

-- sixteen a rack; the racks are the vertices 1 to 16
abbrev pub node : ℕ → RawVertex
node i = record (plain_vertex 2 (codes "node") i (Some (1 + i / 16))) { rank = Some i }

-- sixteen a node; the nodes are the vertices 17 to 272
abbrev pub core : ℕ → RawVertex
core i = plain_vertex 3 (codes "core") (i % 16) (Some (17 + i / 16))

-- one a node
abbrev pub memory : ℕ → RawVertex
memory i = record (plain_vertex 4 (codes "memory") 0 (Some (17 + i))) { size = 64; unit = codes "GB" }

-- the vertex of this number: the cluster, 16 racks, 256 nodes, 4,096 cores, and 256 memories
unfoldable pub vertex_at : ℕ → RawVertex
vertex_at v =
    if nat_lt v 1 then cluster
    else if nat_lt v 17 then rack (v - 1)
    else if nat_lt v 273 then node (v - 17)
    else if nat_lt v 4369 then core (v - 273)
    else memory (v - 4369)

unfoldable pub vertex_count : ℕ
vertex_count = 4625

abbrev pub load_vertices : List RawVertex
load_vertices = map vertex_at (range_with_len 0 vertex_count)

-- the graph is built from these
abbrev pub IsLoadGraph : NamedGraph → Type 0
IsLoadGraph graph = IsBuiltFrom load_kinds load_vertices graph
