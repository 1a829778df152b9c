-- The vertices of nodes with cores and gpus, as the list that a graph is built from.
use Rattle.std.specs.Prelude.{ℕ, suc, List, [], ◌∷◌, ◌++◌, map, codes, decimal, Option, Some, None}
use Rattle.graph_build.specs.declared.raw.RawVertex.{RawVertex}
use Rattle.graph_from_r.specs.declared.nodes.RNode.{RNode}
use Rattle.graph_from_r.specs.Names.{base_of, number_of_name}

abbrev pub r_kinds : List (List ℕ)
r_kinds = codes "cluster" ∷ codes "node" ∷ codes "core" ∷ codes "gpu" ∷ []

-- a vertex of this type and id, of one unit, which is called by both
abbrev pub plain_vertex : (kind : ℕ) (base : List ℕ) (id : ℕ) (parent : Option ℕ) → RawVertex
plain_vertex kind base id parent = record {
  kind = kind;
  base = base;
  name = base ++ decimal id;
  id = Some id;
  rank = None;
  size = 1;
  unit = [];
  properties = [];
  parent = parent;
}

abbrev pub cluster : RawVertex
cluster = plain_vertex 0 (codes "cluster") 0 None

-- a node below the cluster; its basename and its id are those of its name
abbrev pub node_vertex : RNode → RawVertex
node_vertex node = record {
  kind = 1;
  base = base_of node.name;
  name = node.name;
  id = number_of_name node.name;
  rank = Some node.rank;
  size = 1;
  unit = [];
  properties = node.properties;
  parent = Some 0;
}

-- a core or gpu of the node with this number
abbrev pub device : (kind : ℕ) (base : List ℕ) (parent id : ℕ) → RawVertex
device kind base parent id = plain_vertex kind base id (Some parent)

-- the cores and then the gpus of a node
abbrev pub own_devices : ℕ → RNode → List RawVertex
own_devices parent node =
    map (device 2 (codes "core") parent) node.cores ++ map (device 3 (codes "gpu") parent) node.gpus

-- those of nodes, the first of which is the vertex with this number
abbrev pub devices_of : ℕ → List RNode → List RawVertex
devices_of parent [] = []
devices_of parent (node ∷ nodes) = own_devices parent node ++ devices_of (suc parent) nodes

-- the cluster, the nodes in their order, and the cores and gpus of each
abbrev pub r_vertices : List RNode → List RawVertex
r_vertices nodes = cluster ∷ (map node_vertex nodes ++ devices_of 1 nodes)
