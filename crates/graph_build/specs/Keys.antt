-- What tells vertices apart, and the first that it doesn't.
use Rattle.std.specs.Prelude.{◌≡◌, ℕ, ◌<◌, ◌⊎◌, List, length, map, Option, Some, None, MatchOption, min, slice_get}
use Rattle.std.specs.Prelude.{IsTrue}
use Rattle.std.specs.Option.{IsSomeAnd}
use Rattle.std.specs.declared.cmp.Ordering.{Ordering}
use Rattle.std.specs.declared.cmp.Ordering.TheVariants.{Less, Equal}
use Rattle.std.specs.Borrow.{Bor}
use Rattle.std.specs.Cmp.Lexicographic.{slice_cmp}
use Rattle.std.specs.Ordering.{nat_cmp}
use Rattle.flux_defs.specs.Graph.{ResourceGraph, parent_of, is_below, HasKind}
use Rattle.flux_defs.specs.ValidGraph.{HasId, HasRank, IsDevice}
use Rattle.graph_build.specs.Faults.{IsNodeType}
use Rattle.graph_build.specs.Raw.{shape_of, raw_graph, raw_names}
use Rattle.graph_build.specs.declared.raw.RawVertex.{RawVertex}
use Rattle.graph_build.specs.declared.doubles.DeviceKey.{DeviceKey}
use Rattle.graph_build.specs.declared.doubles.SiblingKey.{SiblingKey}

-- an earlier index has the key of this one
abbrev pub IsRepeated : {K : Type 0} → (K → K → Ordering) → List (Option K) → ℕ → Type 0
IsRepeated {K} cmp keys v = (u : ℕ) × (a : K) × (b : K) × (u < v) × (slice_get keys u ≡ Some (Some a))
    × (slice_get keys v ≡ Some (Some b)) × (cmp a b ≡ Equal)

-- an earlier index has the parent and the name of this one
abbrev pub IsDoubleSibling : List (Option SiblingKey) → ℕ → Type 0
IsDoubleSibling keys v = (u : ℕ) × (a : SiblingKey) × (b : SiblingKey) × (u < v) × (slice_get keys u ≡ Some (Some a))
    × (slice_get keys v ≡ Some (Some b)) × (a.parent ≡ b.parent) × (a.name.now ≡ b.name.now)

-- a name is shorter than another one, or as long and less
abbrev pub IsNameBefore : List ℕ → List ℕ → Type 0
IsNameBefore a b = (length a < length b) ⊎ ((length a ≡ length b) × (slice_cmp nat_cmp a b ≡ Less))

-- the lesser of two indices, of which either may be missing
abbrev pub lesser : Option ℕ → Option ℕ → Option ℕ
lesser None other = other
lesser (Some a) None = Some a
lesser (Some a) (Some b) = Some (min a b)

-- by vertex, what is said of it
pub record HasEach {X : Type 0} (Is : ℕ → X → Type 0) (most : ℕ) (list : List X) : Type 0 where
  pub as_many : length list ≡ most
  pub each : (v : ℕ) (x : X) → slice_get list v ≡ Some x → Is v x

-- the node above a core or gpu, its type and its id; none exactly where one of them is missing
abbrev pub IsDeviceKey : ResourceGraph → ℕ → Option DeviceKey → Type 0
IsDeviceKey g v key =
    MatchOption key ((n id : ℕ) → IsDevice g v → IsNodeType g n → IsTrue (is_below g.vertices v n) → HasId g id v → ⊥)
    (λ k. IsDevice g v × IsNodeType g k.node × IsTrue (is_below g.vertices v k.node) × HasKind g.vertices k.kind v
    × HasId g k.id v)

-- the vertex's parent and its name; none exactly where it has no parent
abbrev pub IsSiblingKey : List RawVertex → ℕ → Option SiblingKey → Type 0
IsSiblingKey raw v key = MatchOption key (parent_of (map shape_of raw) v ≡ None)
    (λ k. (parent_of (map shape_of raw) v ≡ Some k.parent) × (slice_get (raw_names raw) v ≡ Some k.name.now))

-- the node's name; none exactly where the vertex is no node
abbrev pub IsNodeName : List (List ℕ) → List RawVertex → ℕ → Option (Bor (List ℕ)) → Type 0
IsNodeName kinds raw v key = MatchOption key (IsNodeType (raw_graph kinds raw) v → ⊥)
    (λ name. IsNodeType (raw_graph kinds raw) v × (slice_get (raw_names raw) v ≡ Some name.now))

-- the node's rank; none exactly where the vertex is no node or has none
abbrev pub IsNodeRank : ResourceGraph → ℕ → Option ℕ → Type 0
IsNodeRank g v key = MatchOption key ((rank : ℕ) → IsNodeType g v → HasRank g rank v → ⊥)
    (λ rank. IsNodeType g v × HasRank g rank v)

-- a node without a rank
abbrev pub IsUnranked : ResourceGraph → ℕ → Type 0
IsUnranked g v = IsNodeType g v × IsSomeAnd (slice_get g.vertices v) (λ x. x.rank ≡ None)
