-- The nodes that an ask bars, as a rising list.
use Rattle.std.specs.Prelude.{◌≡◌, ℕ, ◌<◌, ◌≤◌, Bool, true, false, List, length, Option, MatchOption, slice_get}
use Rattle.std.specs.Prelude.{slice_index, is_some, IsTrue}
use Rattle.std.specs.Option.{option_map_or}
use Rattle.std.specs.List.{list_any}
use Rattle.flux_defs.specs.declared.vertices.Vertex.{Vertex}
use Rattle.flux_defs.specs.Graph.{IsNode, is_at_or_below}

-- whether v is a node
abbrev pub is_node_at : List Vertex → ℕ → Bool
is_node_at vertices v = option_map_or (λ x. is_some x.rank) (slice_get vertices v) false

-- each number of the list is a node
abbrev pub AreNodesOf : List Vertex → List ℕ → Type 0
AreNodesOf vertices barred = (i : ℕ) → i < length barred → is_node_at vertices (slice_index barred i) ≡ true

-- u is the least number of the list from `from` on
pub record IsLeastFrom (list : List ℕ) (from u : ℕ) : Type 0 where
  pub there : (i : ℕ) × (i < length list) × (slice_index list i ≡ u)
  pub low : from ≤ u
  pub least : (i : ℕ) → i < length list → from ≤ slice_index list i → u ≤ slice_index list i

-- the least number of the list from `from` on, and none exactly where all are less
abbrev pub IsLeastOrNone : List ℕ → ℕ → Option ℕ → Type 0
IsLeastOrNone list from found = MatchOption found ((i : ℕ) → i < length list → slice_index list i < from)
    (IsLeastFrom list from)

-- each node is barred, itself or by one above it
abbrev pub BarsAll : List Vertex → List ℕ → Type 0
BarsAll vertices barred = (v : ℕ) → IsNode vertices v → IsTrue (list_any (is_at_or_below vertices v) barred)
