-- The nodes that a resource set names.
use Rattle.std.specs.Prelude.{◌≡◌, ◌↔◌, ◌⊎◌, ℕ, List, [], ◌∷◌, ◌++◌, map, length, slice_get, codes, decimal}
use Rattle.std.specs.List.{Contains, AllByRecursion}
use Rattle.std.specs.Option.{option_map_or}
use Rattle.std.specs.List.Sorted.{IsStrictlyIncreasing}
use Rattle.idset_text.specs.Idsets.{ids_of}
use Rattle.idset_text.specs.Hostlists.{names_of}
use Rattle.resource_set_r.specs.declared.sets_read.RRow.{RRow}
use Rattle.resource_set_r.specs.declared.sets_read.RSet.{RSet}
use Rattle.resource_set_r.specs.ReadRows.{ranges_in}
use Rattle.graph_from_r.specs.declared.nodes.RNode.{RNode}
use Rattle.graph_from_r.specs.declared.places.Place.{Place}
use Rattle.graph_from_r.specs.declared.properties.Property.{Property}
use Rattle.graph_from_r.specs.Properties.{names_at}

-- ---- names

-- the name of a node whose host isn't given
abbrev pub plain_name : ℕ → List ℕ
plain_name rank = codes "node" ++ decimal rank

-- the names of these ranks: those of the hosts in the same order, where there are hosts
abbrev pub names_for : List ℕ → List (List ℕ) → List (List ℕ)
names_for ranks [] = map plain_name ranks
names_for ranks (name ∷ names) = name ∷ names

-- there are no hosts, or as many as ranks
abbrev pub HasHosts : RSet → Type 0
HasHosts set = (names_of set.hosts ≡ []) ⊎ (length (names_of set.hosts) ≡ length (ids_of (ranges_in set.rows)))

-- ---- nodes

-- some element has the node's rank, and gives the node its cores and gpus
pub record HasRow (rows : List RRow) (node : RNode) : Type 0 where
  pub row : RRow
  pub listed : Contains rows row
  pub has_rank : Contains (ids_of row.ranks) node.rank
  pub cores : node.cores ≡ ids_of row.cores
  pub gpus : node.gpus ≡ ids_of row.gpus

-- the node is one of an element, with the properties of its rank
pub record IsNodeOf (set : RSet) (properties : List Property) (node : RNode) : Type 0 where
  pub has_row : HasRow set.rows node
  pub has_properties : node.properties ≡ names_at properties node.rank

-- The nodes of a set: one for each rank, in rising order of rank. The hosts are those of the ranks in that order,
-- whatever the order of the elements.
pub record AreNodesOf (set : RSet) (properties : List Property) (nodes : List RNode) : Type 0 where
  pub rising : IsStrictlyIncreasing (map (λ n. n.rank) nodes)
  pub ranks : (rank : ℕ) →
      Contains (map (λ n. n.rank) nodes) rank ↔ Contains (ids_of (ranges_in set.rows)) rank
  pub names : map (λ n. n.name) nodes ≡ names_for (map (λ n. n.rank) nodes) (names_of set.hosts)
  pub each : AllByRecursion (IsNodeOf set properties) nodes

-- ---- for private clauses

-- the ids of the cores, and of the gpus, of the element with this index
abbrev pub cores_at : List RRow → ℕ → List ℕ
cores_at rows at = option_map_or (λ row. ids_of row.cores) (slice_get rows at) []

abbrev pub gpus_at : List RRow → ℕ → List ℕ
gpus_at rows at = option_map_or (λ row. ids_of row.gpus) (slice_get rows at) []

-- the node of a place, with this name
abbrev pub node_at : List RRow → List Property → Place → List ℕ → RNode
node_at rows properties place name = record {
  rank = place.rank;
  name = name;
  cores = cores_at rows place.row;
  gpus = gpus_at rows place.row;
  properties = names_at properties place.rank;
}

-- the nodes of places, with these names in turn
abbrev pub nodes_at : List RRow → List Property → List Place → List (List ℕ) → List RNode
nodes_at rows properties [] names = []
nodes_at rows properties (place ∷ places) [] = []
nodes_at rows properties (place ∷ places) (name ∷ names) =
    node_at rows properties place name ∷ nodes_at rows properties places names
