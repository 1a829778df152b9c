-- The names of nodes.
use Rattle.std.specs.Prelude.{◌≡◌, ℕ, ◌<◌, List, [], ◌∷◌, map, slice_get, codes, Option, Some, MatchOption}
use Rattle.idset_text.specs.Hostlists.{prefix_of, digits_of, host_number}
use Rattle.resource_graph.specs.Finds.{Nowhere, IsLeast}
use Rattle.graph_from_r.specs.declared.nodes.RNode.{RNode}

abbrev pub or_node : List ℕ → List ℕ
or_node [] = codes "node"
or_node (byte ∷ bytes) = byte ∷ bytes

-- a name without its longest end of digits, or `node` where nothing is left
abbrev pub base_of : List ℕ → List ℕ
base_of name = or_node (prefix_of name)

-- the number at the end of a name, where that has 1 to 9 digits
abbrev pub number_of_name : List ℕ → Option ℕ
number_of_name name = host_number (digits_of name)

-- an earlier node has the name of the node with this index
pub record HasEarlierName (nodes : List RNode) (k : ℕ) : Type 0 where
  pub earlier : ℕ
  pub before : earlier < k
  pub name : List ℕ
  pub here : slice_get (map (λ n. n.name) nodes) k ≡ Some name
  pub there : slice_get (map (λ n. n.name) nodes) earlier ≡ Some name

-- it is the rank of the first such node, and none exactly where there is none
abbrev pub IsRepeatedName : List RNode → Option ℕ → Type 0
IsRepeatedName nodes found = MatchOption found (Nowhere (HasEarlierName nodes))
    (λ rank. (k : ℕ) × IsLeast (HasEarlierName nodes) k × (slice_get (map (λ n. n.rank) nodes) k ≡ Some rank))
