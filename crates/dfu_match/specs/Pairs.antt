-- Pairs of a need of an ask and a vertex: which of them a search may look at, and how many steps that takes.
use Rattle.std.specs.Prelude.{◌≡◌, ◌≢◌, ℕ, ◌+◌, ◌*◌, ◌<◌, ◌≤◌, ◌⊎◌, Bool, ◌&&◌, nat_le, nat_lt, List, [], ◌∷◌, ◌++◌}
use Rattle.std.specs.Prelude.{drop, length, Option, Some, MatchOption, slice_get, Contains, IsTrue, if◌then◌else◌}
use Rattle.std.specs.List.{AllByRecursion}
use Rattle.flux_defs.specs.declared.vertices.Vertex.{Vertex}
use Rattle.flux_defs.specs.declared.claims.Window.{Window}
use Rattle.flux_defs.specs.declared.requests.Need.{Need}
use Rattle.flux_defs.specs.Graph.{is_at_or_below, is_below}
use Rattle.flux_defs.specs.Needs.{HasNoSpread}
use Rattle.flux_defs.specs.Present.{Present}
use Rattle.prune_filters.specs.Demands.{needs_demand, capped}
use Rattle.prune_filters.specs.Shorts.{IsShortFor, IsBelow}
use Rattle.resource_graph.specs.Tables.{IsPast}
use Rattle.dfu_match.specs.declared.wanting.Wanted.{Wanted}
use Rattle.dfu_match.specs.Tables.{all_of, needs_all}

-- a need, by its place among all needs of an ask, and a vertex
pub record Pair : Type 0 where
  pub place : ℕ
  pub vertex : ℕ

-- a need, and those within it, stand from this place on
abbrev pub IsPlaceOf : List Need → ℕ → Need → Type 0
IsPlaceOf all place need = (more : List Need) × (drop place all ≡ all_of need ++ more)

-- and needs one after another
abbrev pub IsPlaceOfAll : List Need → ℕ → List Need → Type 0
IsPlaceOfAll all place needs = (more : List Need) × (drop place all ≡ needs_all needs ++ more)

-- something is asked within a vertex of the need
abbrev pub AsksWithin : Need → Type 0
AsksWithin need = 2 ≤ length (all_of need)

-- over the vertices, what stands, a window, and the totals that are kept (of a kind, the second number, at a vertex)
module _ (vertices : List Vertex) (present : Present) (w : Window) (keeps : ℕ → ℕ → Type 0) where
  -- no vertex above v is short for the need
  abbrev pub IsOpenFor : Need → ℕ → Type 0
  IsOpenFor need v = (u : ℕ) → IsTrue (is_below vertices v u) → IsShortFor vertices present w keeps need u → ⊥

  -- the list has each pair of a need and a vertex that is open for it
  abbrev pub HasEachOpen : List Need → List Pair → Type 0
  HasEachOpen all pairs =
      (place v : ℕ) (need : Need) → slice_get all place ≡ Some need → v < length vertices → IsOpenFor need v →
      Contains pairs (record { place = place; vertex = v })

  -- a total that is kept at the root is below what the needs demand in full, each its amount
  abbrev pub IsRootShort : List Need → Type 0
  IsRootShort needs = (kind : ℕ) × IsBelow vertices present w keeps 0 kind (capped (needs_demand vertices kind needs))

  -- So many looks at the vertices are enough for a match of the needs: one a need, inner ones too, where the root is
  -- short for all of them; and always so many for each open pair of a need and a vertex.
  abbrev pub IsEnoughFor : List Need → ℕ → Type 0
  IsEnoughFor needs looks =
      (IsRootShort needs × (length (needs_all needs) ≤ looks))
      ⊎ ((pairs : List Pair) × HasEachOpen (needs_all needs) pairs
      × ((2 * length (needs_all needs) + 5) * length pairs ≤ looks))

  -- neither v nor a vertex above it is short for the need
  abbrev pub IsClear : Need → ℕ → Type 0
  IsClear need v =
      (u : ℕ) → IsTrue (is_at_or_below vertices v u) → IsShortFor vertices present w keeps need u → ⊥

  -- no vertex above v is short for the need, nor v itself where something is asked within it
  abbrev pub IsClearWithin : Need → ℕ → Type 0
  IsClearWithin need v = IsOpenFor need v × (AsksWithin need → IsClear need v)

  -- neither the vertex below which is looked nor one above it is, where there is one
  abbrev pub IsClearScope : Option ℕ → Need → Type 0
  IsClearScope scope need = MatchOption scope (Unit {0}) (IsClear need)

  -- no vertex that is v or above it is, of those from `low` on and before `to`
  abbrev pub IsClearBetween : Need → ℕ → ℕ → ℕ → Type 0
  IsClearBetween need v low to =
      (u : ℕ) → low ≤ u → u < to → IsTrue (is_at_or_below vertices v u) →
      IsShortFor vertices present w keeps need u → ⊥

  -- none before `from` that is above one of the vertices from `from` on and before `to`
  abbrev pub IsClearBefore : Need → ℕ → ℕ → Type 0
  IsClearBefore need from to = (v : ℕ) → from ≤ v → v < to → IsClearBetween need v 0 from

-- the totals that a search asks for: none where there is no table of demands
abbrev pub asked_totals : List Wanted → (ℕ → ℕ → Type 0) → ℕ → ℕ → Type 0
asked_totals table keeps v kind = (table ≢ []) × keeps v kind

-- the vertices from `from` on and before `to` are those below this one, or all
abbrev pub IsSpanOf : List Vertex → Option ℕ → ℕ → ℕ → Type 0
IsSpanOf vertices scope from to =
    MatchOption scope ((from ≡ 0) × (to ≡ length vertices)) (λ u. (from ≡ u + 1) × IsPast vertices u to)

-- whether the pair is of a need from `first` on and before `after` and a vertex from `from` on and before `to`
abbrev pub is_among : ℕ → ℕ → ℕ → ℕ → Pair → Bool
is_among first after from to pair =
    (nat_le first pair.place && nat_lt pair.place after) && (nat_le from pair.vertex && nat_lt pair.vertex to)

-- how many pairs are
abbrev pub count_among : ℕ → ℕ → ℕ → ℕ → List Pair → ℕ
count_among first after from to [] = 0
count_among first after from to (pair ∷ rest) =
    (if is_among first after from to pair then 1 else 0) + count_among first after from to rest

-- From `old` steps to `new` ones, at most so many are taken for each open pair of these needs and vertices.
abbrev pub TakesEach : (List Pair → Type 0) → ℕ → ℕ → ℕ → ℕ → ℕ → ℕ → ℕ → Type 0
TakesEach each steps old new first after from to =
    (pairs : List Pair) → each pairs → new ≤ old + steps * count_among first after from to pairs

-- the same with other numbers for each pair of the first of the needs and for each of the others
abbrev pub TakesApart : (List Pair → Type 0) → ℕ → ℕ → ℕ → ℕ → ℕ → ℕ → ℕ → ℕ → Type 0
TakesApart each own inner old new first after from to =
    (x : ℕ) × (y : ℕ) × (new ≤ old + (x + y)) × TakesEach each own 0 x first (first + 1) from to
    × TakesEach each inner 0 y (first + 1) after from to

-- writing looks twice at what stands within a spread, and once where there is none
abbrev pub AreLooks : ℕ → Need → Type 0
AreLooks times need = (times ≡ 2) ⊎ ((times ≡ 1) × HasNoSpread need)

abbrev pub AreLooksAll : ℕ → List Need → Type 0
AreLooksAll times needs = (times ≡ 2) ⊎ ((times ≡ 1) × AllByRecursion HasNoSpread needs)
