-- What the queries of a graph answer, and what its tables hold.
use Rattle.std.specs.Prelude.{◌≡◌, ◌≢◌, ℕ, ◌<◌, ◌≤◌, Bool, false, ◌&&◌, ◌==◌, List, length, Option, Some, MatchOption}
use Rattle.std.specs.Prelude.{◌+◌, ◌-◌, min, [], option_and_then, unwrap_or, slice_get, slice_index, IsTrue}
use Rattle.std.specs.List.{list_any, count_by, range_with_len}
use Rattle.std.specs.Option.{option_map_or}
use Rattle.std.specs.List.Sorted.{IsStrictlyIncreasing}
use Rattle.flux_defs.specs.declared.vertices.Vertex.{Vertex}
use Rattle.flux_defs.specs.Graph.{ResourceGraph, is_at_or_below, is_below, HasKind, IsNode}
use Rattle.flux_defs.specs.ValidGraph.{HasRank}
use Rattle.text_forms.specs.Rising.{IsIndexOf}
use Rattle.resource_graph.specs.NamedGraph.{NamedGraph}

-- `after` is the number after the last vertex at or below v: exactly the vertices from v on and before it are at or
-- below v
pub record IsPast (vertices : List Vertex) (v after : ℕ) : Type 0 where
  pub later : v < after
  pub within : after ≤ length vertices
  pub covered : (w : ℕ) → v ≤ w → w < after → IsTrue (is_at_or_below vertices w v)
  pub whole : (w : ℕ) → w < length vertices → IsTrue (is_at_or_below vertices w v) → w < after

-- the node that v is or lies below, and none exactly where v is not in a node
abbrev pub IsNodeOf : List Vertex → ℕ → Option ℕ → Type 0
IsNodeOf vertices v found =
    MatchOption found ((n : ℕ) → IsNode vertices n → IsTrue (is_at_or_below vertices v n) → ⊥)
    (λ n. IsNode vertices n × IsTrue (is_at_or_below vertices v n))

-- the node of this rank, and none exactly where no node has it
abbrev pub IsRanked : ResourceGraph → ℕ → Option ℕ → Type 0
IsRanked g rank found = MatchOption found ((v : ℕ) → HasRank g rank v → ⊥) (λ v. HasRank g rank v)

-- the vertex's rank, where it is a node; none past the last vertex
abbrev pub rank_at : List Vertex → ℕ → Option ℕ
rank_at vertices v = option_and_then (λ x. x.rank) (slice_get vertices v)

-- what the vertex is called; nothing past the last vertex
abbrev pub name_at : NamedGraph → ℕ → List ℕ
name_at g v = unwrap_or (slice_get g.names v) []

-- its basename, the unit of its size, and its properties; nothing past the last vertex
abbrev pub base_at : NamedGraph → ℕ → List ℕ
base_at g v = unwrap_or (slice_get g.bases v) []

abbrev pub unit_at : NamedGraph → ℕ → List ℕ
unit_at g v = unwrap_or (slice_get g.units v) []

abbrev pub properties_at : NamedGraph → ℕ → List (List ℕ)
properties_at g v = unwrap_or (slice_get g.properties v) []

-- the type that is called so, and none exactly where no type is
abbrev pub IsNamedKind : ResourceGraph → List ℕ → Option ℕ → Type 0
IsNamedKind g name found =
    MatchOption found ((k : ℕ) → slice_get g.kinds k ≢ Some name) (λ k. slice_get g.kinds k ≡ Some name)

-- whether v is a vertex of this kind
abbrev pub has_kind : List Vertex → ℕ → ℕ → Bool
has_kind vertices kind v = option_map_or (λ x. x.kind == kind) (slice_get vertices v) false

-- whether some vertex of the lower kind is below some vertex of the upper one
abbrev pub contains_kind : List Vertex → ℕ → ℕ → Bool
contains_kind vertices upper lower =
    list_any (λ u. list_any (λ v. has_kind vertices upper u && (has_kind vertices lower v && is_below vertices v u))
    (range_with_len 0 (length vertices))) (range_with_len 0 (length vertices))

-- how many vertices of the kind stand from `from` on and before `to`
abbrev pub kind_count : List Vertex → ℕ → ℕ → ℕ → ℕ
kind_count vertices kind from to = count_by (has_kind vertices kind) (range_with_len from (to - from))

-- v is the least vertex of the kind from `from` on and before `to`
pub record IsNextOfKind (vertices : List Vertex) (kind from to v : ℕ) : Type 0 where
  pub of_kind : HasKind vertices kind v
  pub low : from ≤ v
  pub high : v < to
  pub least : (u : ℕ) → HasKind vertices kind u → from ≤ u → v ≤ u

-- so many vertices from `from` on stand before `to` and are of the kind
abbrev pub IsRunOfKind : List Vertex → ℕ → ℕ → ℕ → ℕ → Type 0
IsRunOfKind vertices kind from to run =
    (v : ℕ) → from ≤ v → v < from + run → (v < to) × HasKind vertices kind v

-- no vertex of the kind stands from `from` on and before `to`
abbrev pub HasNoneOfKind : List Vertex → ℕ → ℕ → ℕ → Type 0
HasNoneOfKind vertices kind from to = (u : ℕ) → HasKind vertices kind u → from ≤ u → u < to → ⊥

-- v is the least number of the list from `from` on and before `to`
pub record IsNextIn (list : List ℕ) (from to v : ℕ) : Type 0 where
  pub there : (i : ℕ) × (i < length list) × (slice_index list i ≡ v)
  pub low : from ≤ v
  pub high : v < to
  pub least : (i : ℕ) → i < length list → from ≤ slice_index list i → v ≤ slice_index list i

-- the list has no number from `from` on and before `to`
abbrev pub HasNoneIn : List ℕ → ℕ → ℕ → Type 0
HasNoneIn list from to = (i : ℕ) → i < length list → from ≤ slice_index list i → slice_index list i < to → ⊥

-- so many numbers of the rising list stand from `from` on and before `to`, where no more than `most` are counted
abbrev pub IsCountIn : List ℕ → ℕ → ℕ → ℕ → ℕ → Type 0
IsCountIn list from to most count = (first after : ℕ) →
    IsIndexOf list from first → IsIndexOf list to after → count ≡ min most (after - first)

-- the list has exactly the vertices of the kind, rising
pub record ListsKind (vertices : List Vertex) (kind : ℕ) (list : List ℕ) : Type 0 where
  pub only : (i : ℕ) → i < length list → HasKind vertices kind (slice_index list i)
  pub all : (v : ℕ) → HasKind vertices kind v → (i : ℕ) × (i < length list) × (slice_index list i ≡ v)
  pub rising : IsStrictlyIncreasing list

-- the first index of the text, and none exactly where it stands at no index
abbrev pub IsFirstIndex : List (List ℕ) → List ℕ → Option ℕ → Type 0
IsFirstIndex texts wanted found =
    MatchOption found ((k : ℕ) → slice_get texts k ≢ Some wanted)
    (λ k. (slice_get texts k ≡ Some wanted) × ((j : ℕ) → j < k → slice_get texts j ≢ Some wanted))
