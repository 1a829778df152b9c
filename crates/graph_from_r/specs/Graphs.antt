-- Which bytes are a resource set that gives a graph, and which; and which fault other bytes have.
use Rattle.std.specs.Prelude.{◌≡◌, ◌≢◌, ◌<◌, ◌≤◌, ◌+◌, ℕ, List, [], ◌∷◌, length, map, Some, None, ⊤}
use Rattle.std.specs.List.{AllByRecursion}
use Rattle.std.specs.List.Sorted.{IsStrictlyIncreasing}
use Rattle.flux_defs.specs.declared.limits.TheConstants.{MOST_VERTICES, NO_ID}
use Rattle.serde_json.specs.Data.{Data}
use Rattle.json_whole.specs.Whole.{value_of}
use Rattle.idset_text.specs.Idsets.{ids_of}
use Rattle.resource_graph.specs.NamedGraph.{NamedGraph}
use Rattle.graph_build.specs.Raw.{IsBuiltFrom}
use Rattle.resource_set_r.specs.declared.faults.RFault.TheVariants as r
use Rattle.resource_set_r.specs.declared.sets_read.RRow.{RRow}
use Rattle.resource_set_r.specs.declared.sets_read.RSet.{RSet}
use Rattle.resource_set_r.specs.ReadRows.{ranges_in}
use Rattle.resource_set_r.specs.ReadR as set
use Rattle.resource_set_r.specs.ReadR.{IsSetOf}
use Rattle.graph_from_r.specs.declared.faults.LoadFault.{LoadFault}
use Rattle.graph_from_r.specs.declared.faults.LoadFault.TheVariants.{R, NoRanks, Large, Property, Name, Memory}
use Rattle.graph_from_r.specs.declared.nodes.RNode.{RNode}
use Rattle.graph_from_r.specs.declared.properties.Property.{Property as Prop}
use Rattle.graph_from_r.specs.Sizes.{vertex_count}
use Rattle.graph_from_r.specs.Properties.{properties_in}
use Rattle.graph_from_r.specs.Nodes.{AreNodesOf}
use Rattle.graph_from_r.specs.Names.{IsRepeatedName}
use Rattle.graph_from_r.specs.Vertices.{r_kinds, r_vertices}

-- some rank is listed, and there are not too many vertices
pub record HasSize (set : RSet) : Type 0 where
  pub some : 0 < length (ids_of (ranges_in set.rows))
  pub few : vertex_count set.rows ≤ MOST_VERTICES

-- The graph of a set with these properties: built from the vertices of its nodes, whose names differ.
pub record IsGraphWith (set : RSet) (properties : List Prop) (g : NamedGraph) : Type 0 where
  pub nodes : List RNode
  pub are : AreNodesOf set properties nodes
  pub apart : IsRepeatedName nodes None
  pub built : IsBuiltFrom r_kinds (r_vertices nodes) g

-- The graph of a value: it is a set of some ranks and not too many vertices, and gives properties.
pub record IsGraphOfValue (d : Data) (g : NamedGraph) : Type 0 where
  pub set : RSet
  pub is_set : IsSetOf d set
  pub size : HasSize set
  pub properties : List Prop
  pub given : properties_in d ≡ Some properties
  pub graph : IsGraphWith set properties g

-- the bytes are JSON of a value with this graph
abbrev pub IsGraphOfR : List ℕ → NamedGraph → Type 0
IsGraphOfR bytes g = (d : Data) × (value_of bytes ≡ Some d) × IsGraphOfValue d g

-- ---- faults

-- the value is this set
pub record IsOfSet (bytes : List ℕ) (d : Data) (set : RSet) : Type 0 where
  pub value : value_of bytes ≡ Some d
  pub is_set : IsSetOf d set

-- the nodes of the set have a repeated name, first this rank's
abbrev pub HasRepeatedName : RSet → List Prop → ℕ → Type 0
HasRepeatedName set properties rank =
    (nodes : List RNode) × AreNodesOf set properties nodes × IsRepeatedName nodes (Some rank)

-- Which fault the bytes have: what is looked at first is told first. Of want of memory nothing is said.
abbrev pub IsFirstFault : List ℕ → LoadFault → Type 0
IsFirstFault bytes (R fault) = set.IsFirstFault bytes fault × (fault ≢ r.Memory)
IsFirstFault bytes NoRanks = (d : Data) × (set : RSet) × IsOfSet bytes d set × (ids_of (ranges_in set.rows) ≡ [])
IsFirstFault bytes Large = (d : Data)
    × (set : RSet) × IsOfSet bytes d set × (MOST_VERTICES < vertex_count set.rows)
IsFirstFault bytes Property = (d : Data)
    × (set : RSet) × IsOfSet bytes d set × HasSize set × (properties_in d ≡ None)
IsFirstFault bytes (Name rank) = (d : Data) × (set : RSet) × IsOfSet bytes d set × HasSize set
    × (properties : List Prop) × (properties_in d ≡ Some properties) × HasRepeatedName set properties rank
IsFirstFault bytes Memory = ⊤

-- ---- for private clauses

-- ids that rise, the first at `least` or above
abbrev pub RiseFrom : ℕ → List ℕ → Type 0
RiseFrom least [] = ⊤
RiseFrom least (id ∷ ids) = (least ≤ id) × (id < NO_ID) × RiseFrom (id + 1) ids

-- the ids of each element's cores rise, and those of its gpus
abbrev pub HasFairRows : List RRow → Type 0
HasFairRows rows = AllByRecursion (λ row. RiseFrom 0 (ids_of row.cores) × RiseFrom 0 (ids_of row.gpus)) rows

-- the ids of its cores rise, and those of its gpus
abbrev pub IsFair : RNode → Type 0
IsFair node = RiseFrom 0 node.cores × RiseFrom 0 node.gpus

-- there are not too many vertices; ranks rise, and in each node the ids of its cores and those of its gpus
pub record AreFairNodes (nodes : List RNode) : Type 0 where
  pub few : length (r_vertices nodes) ≤ MOST_VERTICES
  pub ranks : IsStrictlyIncreasing (map (λ n. n.rank) nodes)
  pub each : AllByRecursion IsFair nodes

abbrev pub IsSizeFault : RSet → LoadFault → Type 0
IsSizeFault set (R fault) = ⊥
IsSizeFault set NoRanks = ids_of (ranges_in set.rows) ≡ []
IsSizeFault set Large = MOST_VERTICES < vertex_count set.rows
IsSizeFault set Property = ⊥
IsSizeFault set (Name rank) = ⊥
IsSizeFault set Memory = ⊥

abbrev pub IsFaultWith : RSet → List Prop → LoadFault → Type 0
IsFaultWith set properties (R fault) = ⊥
IsFaultWith set properties NoRanks = ⊥
IsFaultWith set properties Large = ⊥
IsFaultWith set properties Property = ⊥
IsFaultWith set properties (Name rank) = HasRepeatedName set properties rank
IsFaultWith set properties Memory = ⊤
