-- What is counted at a place, and of how much.
use Rattle.std.specs.Prelude.{◌≡◌, ℕ, if◌then◌else◌, List, Some, slice_get}
use Rattle.flux_defs.specs.declared.vertices.Vertex.{Vertex}
use Rattle.flux_defs.specs.declared.claims.Claim.{Claim}
use Rattle.flux_defs.specs.Graph.{size_of}
use Rattle.flux_defs.specs.Jobs.{take_of}
use Rattle.book_laws.specs.Amounts.{hold_of, capacity, part_of}
use Rattle.vertex_planners.specs.Counting.{counts_at}
use Rattle.vertex_accounts.specs.declared.quantities.Quantity.{Quantity}
use Rattle.vertex_accounts.specs.declared.quantities.Quantity.TheVariants.{Holds, Claims, Takes, Units}
use Rattle.vertex_accounts.specs.Capacities.{AreOf}

-- 1 for a claim that counts at v
abbrev pub claim_count : List Vertex → ℕ → Claim → ℕ
claim_count vertices v c = if counts_at vertices v c then 1 else 0

-- what a claim that counts at v has of the kind
abbrev pub part_count : List Vertex → ℕ → ℕ → Claim → ℕ
part_count vertices kind v c = if counts_at vertices v c then part_of vertices kind c else 0

-- what a claim amounts to at v
abbrev pub amount_in : List Vertex → Quantity → ℕ → Claim → ℕ
amount_in vertices Holds v c = hold_of v c
amount_in vertices Claims v c = claim_count vertices v c
amount_in vertices Takes v c = take_of v c
amount_in vertices (Units capacities) v c = part_count vertices capacities.kind v c

-- the greatest number of holds and of claims
abbrev pub most_claims : ℕ
most_claims = 18446744073709551615

-- of how much: of the most claims, of the vertex's units, or of the type's capacity at the vertex
abbrev pub total_in : List Vertex → Quantity → ℕ → ℕ
total_in vertices Holds v = most_claims
total_in vertices Claims v = most_claims
total_in vertices Takes v = size_of vertices v
total_in vertices (Units capacities) v = capacity vertices capacities.kind v

-- the capacities are those of the graph of these vertices
abbrev pub KnowsCapacities : List Vertex → Quantity → Type 0
KnowsCapacities vertices Holds = Unit {0}
KnowsCapacities vertices Claims = Unit {0}
KnowsCapacities vertices Takes = Unit {0}
KnowsCapacities vertices (Units capacities) = AreOf vertices capacities.kind capacities

-- the capacities of each quantity are those of the graph of these vertices
abbrev pub KnowCapacities : List Vertex → List Quantity → Type 0
KnowCapacities vertices quantities =
    (k : ℕ) (q : Quantity) → slice_get quantities k ≡ Some q → KnowsCapacities vertices q

-- the quantity is the units of this type
abbrev pub IsUnitsOf : ℕ → Quantity → Type 0
IsUnitsOf kind Holds = ⊥
IsUnitsOf kind Claims = ⊥
IsUnitsOf kind Takes = ⊥
IsUnitsOf kind (Units capacities) = capacities.kind ≡ kind
