-- What the tables of a graph hold, and what each step of their making leaves.
use Rattle.std.specs.Prelude.{◌≡◌, ℕ, ◌<◌, ◌*◌, ◌+◌, ◌↔◌, ◌⊎◌, Bool, false, List, [], length, Option, Some, slice_get}
use Rattle.std.specs.Prelude.{slice_index, slice_index_or, IsTrue, Vec}
use Rattle.std.specs.Ordering.{nat_cmp}
use Rattle.std.specs.BTreeMap.{BTreeMap, get}
use Rattle.std.specs.declared.alloc.Global.{Global}
use Rattle.flux_defs.specs.declared.vertices.Vertex.{Vertex}
use Rattle.flux_defs.specs.Graph.{is_pool_kind, is_below, HasKind, Contains}
use Rattle.resource_graph.specs.Preorder.{plain}
use Rattle.resource_graph.specs.Tables.{IsPast, IsNodeOf, IsRanked, ListsKind}

-- by vertex, the number after the last vertex at or below it
pub record HasPasts (vertices : List Vertex) (past : List ℕ) : Type 0 where
  pub as_many : length past ≡ length vertices
  pub each : (v : ℕ) → v < length vertices → IsPast vertices v (slice_index past v)

-- by vertex, the node that it is or lies below
pub record HasNodes (vertices : List Vertex) (nodes : List (Option ℕ)) : Type 0 where
  pub as_many : length nodes ≡ length vertices
  pub each : (v : ℕ) (found : Option ℕ) → slice_get nodes v ≡ Some found → IsNodeOf vertices v found

-- by type, its vertices
pub record HasLists (vertices : List Vertex) (kinds : ℕ) (lists : List (Vec ℕ Global)) : Type 0 where
  pub as_many : length lists ≡ kinds
  pub each : (k : ℕ) (list : Vec ℕ Global) → slice_get lists k ≡ Some list → ListsKind vertices k list.items

-- by rank, its node
abbrev pub HasRanked : List Vertex → BTreeMap ℕ ℕ → Type 0
HasRanked vertices ranked = (rank : ℕ) → IsRanked (plain vertices) rank (get nat_cmp ranked rank)

-- by type, whether it is a pool type
abbrev pub HasPools : List Vertex → List Bool → Type 0
HasPools vertices pools = (k : ℕ) → slice_index_or pools k false ≡ is_pool_kind vertices k

-- by two types, row by row, whether the first contains the second
pub record HasNested (vertices : List Vertex) (kinds : ℕ) (nested : List Bool) : Type 0 where
  pub as_many : length nested ≡ kinds * kinds
  pub each : (upper lower : ℕ) → upper < kinds → lower < kinds →
      (IsTrue (slice_index_or nested (upper * kinds + lower) false)
      ↔ Contains vertices (HasKind vertices upper) (HasKind vertices lower))

-- the numbers from 1 to the count
pub record CountsUp (numbers : List ℕ) (count : ℕ) : Type 0 where
  pub as_many : length numbers ≡ count
  pub each : (v : ℕ) → v < count → slice_index numbers v ≡ v + 1

-- so many empty lists
pub record AreEmpty (lists : List (Vec ℕ Global)) (count : ℕ) : Type 0 where
  pub as_many : length lists ≡ count
  pub each : (k : ℕ) (list : Vec ℕ Global) → slice_get lists k ≡ Some list → list.items ≡ []

-- the nodes of the vertices before this one
pub record HasNodesTo (vertices : List Vertex) (most : ℕ) (nodes : List (Option ℕ)) : Type 0 where
  pub as_many : length nodes ≡ most
  pub each : (v : ℕ) (found : Option ℕ) → slice_get nodes v ≡ Some found → IsNodeOf vertices v found

-- v is of the lower kind and below a vertex of the upper one
abbrev pub LiesIn : List Vertex → ℕ → ℕ → ℕ → Type 0
LiesIn vertices upper lower v =
    (u : ℕ) × HasKind vertices upper u × HasKind vertices lower v × IsTrue (is_below vertices v u)

-- exactly the pairs of kinds that v shows are marked beside those that were
pub record AddsNested (vertices : List Vertex) (kinds v : ℕ) (old new : List Bool) : Type 0 where
  pub as_many : length new ≡ length old
  pub each : (upper lower : ℕ) → upper < kinds → lower < kinds →
      (IsTrue (slice_index_or new (upper * kinds + lower) false)
      ↔ (IsTrue (slice_index_or old (upper * kinds + lower) false) ⊎ LiesIn vertices upper lower v))
