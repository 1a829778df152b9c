-- The table of faults. Of a list of vertices the first row is told that holds, with the least number at which it does.
use Rattle.std.specs.Prelude.{◌≡◌, ℕ, ◌<◌, ◌⊎◌, ◌++◌, List, [], ◌∷◌, length}
use Rattle.flux_defs.specs.declared.limits.TheConstants.{MOST_VERTICES, MOST_TYPES}
use Rattle.flux_defs.specs.Graph.{ResourceGraph}
use Rattle.resource_graph.specs.Finds.{Nowhere, IsLeast}
use Rattle.graph_build.specs.Faults.{HasUnknownParent, HasUnknownKind, IsRoot, IsSecondRoot, NeverEnds, IsDeep}
use Rattle.graph_build.specs.Faults.{IsNestedInKind}
use Rattle.graph_build.specs.Faults.{IsReserved, IsPoolWithChild, IsSized, IsLarge, IsLoose, HasNoId, HasDoubleId}
use Rattle.graph_build.specs.Faults.{HasDoubleName, HasBadRank}
use Rattle.graph_build.specs.declared.raw.GraphFault.{GraphFault}
use Rattle.graph_build.specs.declared.raw.GraphFault.TheVariants.{Vertices, Kinds, UnknownParent, UnknownKind, NoRoot}
use Rattle.graph_build.specs.declared.raw.GraphFault.TheVariants.{ManyRoots, Cycle, Depth, NestedKind}
use Rattle.graph_build.specs.declared.raw.GraphFault.TheVariants.{ReservedKind, PoolWithChild, Sized, Large, Loose}
use Rattle.graph_build.specs.declared.raw.GraphFault.TheVariants.{NoId, DuplicateId, DuplicateName, Ranks, Memory}

-- a row of the table: the fault with a number, mostly a vertex, and the numbers at which it holds
pub record Row : Type 1 where
  pub fault : ℕ → GraphFault
  pub Holds : ℕ → Type 0

abbrev pub row : (ℕ → GraphFault) → (ℕ → Type 0) → Row
row fault Holds = record { fault = fault; Holds = Holds }

-- how many there are, the parents, the kinds and the root
abbrev pub link_rows : ResourceGraph → List Row
link_rows g =
    row Vertices (λ n. (n ≡ length g.vertices) × (MOST_VERTICES < n))
    ∷ row Kinds (λ n. (n ≡ length g.kinds) × (MOST_TYPES < n))
    ∷ row UnknownParent (HasUnknownParent g)
    ∷ row UnknownKind (HasUnknownKind g)
    ∷ row (λ _. NoRoot) (λ n. (n ≡ 0) × Nowhere (IsRoot g))
    ∷ row ManyRoots (IsSecondRoot g)
    ∷ []

-- the chains from the root down
abbrev pub chain_rows : ResourceGraph → List Row
chain_rows g = row Cycle (NeverEnds g) ∷ row Depth (IsDeep g) ∷ row NestedKind (IsNestedInKind g) ∷ []

-- the types' names, the pools and the sizes
abbrev pub size_rows : ResourceGraph → List Row
size_rows g = row ReservedKind (IsReserved g) ∷ row PoolWithChild (IsPoolWithChild g) ∷ row Sized (IsSized g)
    ∷ row Large (IsLarge g) ∷ []

-- the cores and gpus
abbrev pub device_rows : ResourceGraph → List Row
device_rows g = row Loose (IsLoose g) ∷ row NoId (HasNoId g) ∷ row DuplicateId (HasDoubleId g) ∷ []

-- the rows that need no names
abbrev pub vertex_rows : ResourceGraph → List Row
vertex_rows g = link_rows g ++ (chain_rows g ++ (size_rows g ++ device_rows g))

-- the names of siblings and of nodes
abbrev pub name_rows : ResourceGraph → List (List ℕ) → List Row
name_rows g names = row DuplicateName (HasDoubleName g names) ∷ []

-- the ranks of nodes
abbrev pub rank_rows : ResourceGraph → List Row
rank_rows g = row Ranks (HasBadRank g) ∷ []

-- all rows, in their order
abbrev pub table : ResourceGraph → List (List ℕ) → List Row
table g names = vertex_rows g ++ (name_rows g names ++ rank_rows g)

-- no row holds
abbrev pub NoneHolds : List Row → Type 0
NoneHolds [] = Unit {0}
NoneHolds (row ∷ rows) = Nowhere row.Holds × NoneHolds rows

-- the first row that holds is of the fault, with the least number at which it does
abbrev pub IsFirstRow : List Row → GraphFault → Type 0
IsFirstRow [] fault = ⊥
IsFirstRow (row ∷ rows) fault = ((n : ℕ) × (fault ≡ row.fault n) × IsLeast row.Holds n) ⊎
    (Nowhere row.Holds × IsFirstRow rows fault)

-- it is that fault, or want of memory
abbrev pub IsFirstIn : List Row → GraphFault → Type 0
IsFirstIn rows fault = (fault ≡ Memory) ⊎ IsFirstRow rows fault

-- the first fault of the vertices, or want of memory
abbrev pub IsFirstFault : ResourceGraph → List (List ℕ) → GraphFault → Type 0
IsFirstFault g names = IsFirstIn (table g names)

-- nothing is wrong with the vertices
abbrev pub IsFaultless : ResourceGraph → List (List ℕ) → Type 0
IsFaultless g names = NoneHolds (table g names)
