-- What is counted at each place of a vertex's planners.
use Rattle.std.specs.Prelude.{◌≡◌, ◌↔◌, ℕ, ◌+◌, ◌*◌, if◌then◌else◌, is_some, List, [], ◌∷◌, ◌++◌, length, Option, Some}
use Rattle.std.specs.Prelude.{IsSome, sum_by, slice_get}
use Rattle.flux_defs.specs.declared.vertices.Vertex.{Vertex}
use Rattle.flux_defs.specs.declared.claims.Claim.{Claim}
use Rattle.planner_points.specs.declared.spans.Span.{Span}
use Rattle.vertex_planners.specs.declared.amounts.Amounts.{Amounts}
use Rattle.vertex_planners.specs.Numbers.{amount_at}
use Rattle.vertex_accounts.specs.declared.quantities.Quantity.{Quantity}
use Rattle.vertex_accounts.specs.declared.quantities.Quantity.TheVariants.{Holds, Claims, Takes}
use Rattle.vertex_accounts.specs.declared.counted.Counted.{Counted}
use Rattle.vertex_accounts.specs.Quantities.{amount_in, total_in, KnowCapacities, IsUnitsOf}
use Rattle.vertex_accounts.specs.Costs.{reach_of}

-- 1 for a place, and 0 for none
abbrev pub kept_one : {A : Type 0} → Option A → ℕ
kept_one entry = if is_some entry then 1 else 0

-- how many of the entries are there
abbrev pub kept_count : {A : Type 0} → List (Option A) → ℕ
kept_count entries = sum_by kept_one entries

-- of how many types totals are kept
abbrev pub types_in : Counted → ℕ
types_in counted = kept_count counted.places

-- holds, claims and takes are counted at the first places, and the units of a type at its place, all of the graph of
-- these vertices
pub record AreCounted (vertices : List Vertex) (counted : Counted) : Type 0 where
  pub holds : slice_get counted.quantities 0 ≡ Some Holds
  pub claims : slice_get counted.quantities 1 ≡ Some Claims
  pub takes : slice_get counted.quantities 2 ≡ Some Takes
  pub units : (kind place : ℕ) → slice_get counted.places kind ≡ Some (Some place) →
      (q : Quantity) × (slice_get counted.quantities place ≡ Some q) × IsUnitsOf kind q
  pub capacities : KnowCapacities vertices counted.quantities
  pub reach : sum_by reach_of counted.quantities ≡ 18 + 16 * types_in counted

-- one type more, which has a place exactly where it is named
abbrev pub IsPlaceAdded : Type 0 → List (Option ℕ) → List (Option ℕ) → Type 0
IsPlaceAdded Named old new = (entry : Option ℕ) × (new ≡ old ++ entry ∷ []) × (Named ↔ IsSome entry)

-- at each place, what the claims amount to of its quantity, by vertices
pub record AreNumbers
    (vertices : List Vertex) (quantities : List Quantity) (claims : List Claim) (places : List Amounts) : Type 0 where
  pub len : length places ≡ length quantities
  pub sums : (k : ℕ) (q : Quantity) (amounts : Amounts) →
      slice_get quantities k ≡ Some q → slice_get places k ≡ Some amounts →
      (v : ℕ) → amount_at amounts v ≡ sum_by (amount_in vertices q v) claims

-- at each vertex a planner without spans for each quantity, of its total
abbrev pub AreNew : {P : Type 0} →
    (P → ℕ) → (P → List Span → Type 0) → List Vertex → List Quantity → List (List P) → Type 0
AreNew {P = P} total_of stands_for vertices quantities items = (v k : ℕ) (item : List P) (p : P) (q : Quantity) →
    slice_get items v ≡ Some item → slice_get item k ≡ Some p →
    slice_get quantities k ≡ Some q → (total_of p ≡ total_in vertices q v) × stands_for p []
