-- The tests by which a list of vertices is checked, and what a search for the first bad vertex finds.
use Rattle.std.specs.Prelude.{◌≡◌, ℕ, zero, suc, ◌<◌, ◌≤◌, ◌↔◌, Bool, true, false, nat_le, List, length, Option, Some}
use Rattle.std.specs.Prelude.{None, slice_get, slice_index_or, MatchOption, IsTrue}
use Rattle.std.specs.Option.{option_map_or}
use Rattle.flux_defs.specs.declared.vertices.Vertex.{Vertex}
use Rattle.flux_defs.specs.Graph.{ResourceGraph, parent_of, is_below}
use Rattle.graph_build.specs.Faults.{IsNodeType, IsHoused}

-- vertices in any order, with the names of their types
abbrev pub graph_in : List (List ℕ) → List Vertex → ResourceGraph
graph_in kinds vertices = record { kinds = kinds; vertices = vertices }

-- by the answers of a test, the first number from `from` on and before `to` of which it is true, and none exactly where
-- it is true of none of them
pub record IsFirstWhere (Answers : ℕ → Bool → Type 0) (from to : ℕ) (found : Option ℕ) : Type 0 where
  pub is : MatchOption found ((u : ℕ) → from ≤ u → u < to → Answers u false)
      (λ v. (from ≤ v) × (v < to) × Answers v true × ((u : ℕ) → from ≤ u → u < v → Answers u false))

-- its parent is at this index or past it
abbrev pub has_parent_from : ℕ → Vertex → Bool
has_parent_from count x = option_map_or (nat_le count) x.parent false

-- the vertex so many steps up
abbrev pub climb : List Vertex → ℕ → Option ℕ → Option ℕ
climb vertices zero o = o
climb vertices (suc n) None = None
climb vertices (suc n) (Some v) = climb vertices n (parent_of vertices v)

-- by vertex, the one so many steps up
pub record HasClimbs (vertices : List Vertex) (steps : ℕ) (climbs : List (Option ℕ)) : Type 0 where
  pub as_many : length climbs ≡ length vertices
  pub each : (v : ℕ) (o : Option ℕ) → slice_get climbs v ≡ Some o → o ≡ climb vertices steps (Some v)

-- where a climb leads, it leads to a number below the count
abbrev pub LeadsWithin : List (Option ℕ) → ℕ → Type 0
LeadsWithin climbs count = (v u : ℕ) → slice_get climbs v ≡ Some (Some u) → u < count

-- a node above v, and none exactly where none is
abbrev pub IsHouse : ResourceGraph → ℕ → Option ℕ → Type 0
IsHouse g v found = MatchOption found (IsHoused g v → ⊥) (λ n. IsNodeType g n × IsTrue (is_below g.vertices v n))

-- by vertex, a node above it
pub record HasHouses (g : ResourceGraph) (most : ℕ) (houses : List (Option ℕ)) : Type 0 where
  pub as_many : length houses ≡ most
  pub each : (v : ℕ) (o : Option ℕ) → slice_get houses v ≡ Some o → IsHouse g v o

-- v has a child among the first so many vertices
abbrev pub HasChildTo : List Vertex → ℕ → ℕ → Type 0
HasChildTo vertices most v = (w : ℕ) × (w < most) × (parent_of vertices w ≡ Some v)

-- by vertex, whether it has a child among the first so many vertices
pub record HasChildren (vertices : List Vertex) (most : ℕ) (children : List Bool) : Type 0 where
  pub as_many : length children ≡ length vertices
  pub each : (v : ℕ) → v < length vertices → (IsTrue (slice_index_or children v false) ↔ HasChildTo vertices most v)
