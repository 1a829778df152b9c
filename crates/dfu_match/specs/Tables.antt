-- All needs of an ask in one list, and a table of what each demands.
use Rattle.std.specs.Prelude.{◌≡◌, ℕ, ◌≤◌, ◌==◌, ◌⊎◌, ◌↔◌, List, Contains, [], ◌∷◌, ◌++◌, drop, length, Option, Some}
use Rattle.std.specs.Prelude.{slice_get, IsTrue}
use Rattle.std.specs.List.{AllZip, list_any}
use Rattle.flux_defs.specs.declared.vertices.Vertex.{Vertex}
use Rattle.flux_defs.specs.declared.requests.Need.{Need, Vert', Pool, Spread', Row_of-Need, end_of-Need, more_of-Need}
use Rattle.prune_filters.specs.Demands.{is_node_kind, needs_demand, capped}
use Rattle.prune_filters.specs.declared.shorts.Demand.{Demand}
use Rattle.prune_filters.specs.Shorts.{AreDemandsOf}
use Rattle.dfu_match.specs.declared.wanting.Wanted.{Wanted}

abbrev mutual
  -- a need, and then those within it
  pub all_of : Need → List Need
  all_of (Vert' kind count hold m needs) = Vert' kind count hold m needs ∷ row_all needs
  all_of (Pool kind quantity) = Pool kind quantity ∷ []
  all_of (Spread' count m needs) = Spread' count m needs ∷ row_all needs

  -- the same of each need of a row
  pub row_all : {m : _} → Row_of-Need m → List Need
  row_all end_of-Need = []
  row_all (more_of-Need need rest) = all_of need ++ row_all rest

-- the same of each need of a list
abbrev pub needs_all : List Need → List Need
needs_all [] = []
needs_all (need ∷ rest) = all_of need ++ needs_all rest

-- exactly this kind is that of nodes
abbrev pub IsNodesKind : List Vertex → Option ℕ → Type 0
IsNodesKind vertices nodes = (kind : ℕ) → (IsTrue (is_node_kind vertices kind) ↔ (nodes ≡ Some kind))

-- the entry tells what one of the need demands, and how many needs it is with those within it
pub record IsWantedBy (vertices : List Vertex) (need : Need) (wanted : Wanted) : Type 0 where
  pub demands : AreDemandsOf vertices need wanted.demands
  pub few : length wanted.demands ≤ length (all_of need)
  pub within : wanted.within ≡ capped (length (all_of need))

-- each entry of the table tells of the need at its index
abbrev pub AreWantedBy : List Vertex → List Need → List Wanted → Type 0
AreWantedBy vertices all table = (i : ℕ) (need : Need) (wanted : Wanted) → slice_get all i ≡ Some need →
    slice_get table i ≡ Some wanted →
    IsWantedBy vertices need wanted

-- a need of the list stands at this index with those within it, unless there is no table
abbrev pub StandsAt : List Need → List Wanted → ℕ → Need → Type 0
StandsAt all table index need = (table ≡ []) ⊎ ((more : List Need) × (drop index all ≡ all_of need ++ more))

-- and needs one after another
abbrev pub StandAt : List Need → List Wanted → ℕ → List Need → Type 0
StandAt all table index needs = (table ≡ []) ⊎ ((more : List Need) × (drop index all ≡ needs_all needs ++ more))

-- the new table is the old one and then such entries, one a need
abbrev pub Grows : (Need → Wanted → Type 0) → List Need → List Wanted → List Wanted → Type 0
Grows P needs old new = (more : List Wanted) × (new ≡ old ++ more) × AllZip P needs more

-- The demands are those of needs in full, each its amount: of each kind that they demand as much as they do.
pub record AreDemandsOfAll (vertices : List Vertex) (needs : List Need) (demands : List Demand) : Type 0 where
  pub each : (d : Demand) → Contains demands d → d.amount ≡ capped (needs_demand vertices d.kind needs)
  pub all : (kind : ℕ) → 1 ≤ needs_demand vertices kind needs → IsTrue (list_any (λ d. d.kind == kind) demands)
