-- Numbers by places and vertices.
use Rattle.std.specs.Prelude.{◌≡◌, ℕ, zero, suc, ◌<◌, ◌+◌, ◌≤◌, List, length, Some, None, IsSome, sum_by, slice_get}
use Rattle.vertex_planners.specs.declared.amounts.Amounts.{Amounts}
use Rattle.vertex_planners.specs.declared.rows.Rows.{Rows}
use Rattle.vertex_planners.specs.Numbers.{kept_at, count_of, HasKeysBelow, IsTaken}

-- the numbers of the places
abbrev pub places_of : Rows → List Amounts
places_of rows = rows.places.items

-- how many numbers are kept, of all places and vertices
abbrev pub count_all : List Amounts → ℕ
count_all places = sum_by count_of places

-- 0 for 0, and 1 for any other number
abbrev pub some_one : ℕ → ℕ
some_one zero = 0
some_one (suc n) = 1

-- how many numbers aren't 0
abbrev pub count_some : List ℕ → ℕ
count_some row = sum_by some_one row

-- numbers are kept for vertices before this one alone
abbrev pub HaveKeysBelow : ℕ → List Amounts → Type 0
HaveKeysBelow most places = (k : ℕ) (amounts : Amounts) → slice_get places k ≡ Some amounts → HasKeysBelow most amounts

-- a number is kept for the vertex at some place
abbrev pub IsLeft : List Amounts → ℕ → Type 0
IsLeft places v = (k : ℕ) × (amounts : Amounts) × (slice_get places k ≡ Some amounts) × IsSome (kept_at amounts v)

-- no number is kept for the vertex
abbrev pub IsGone : List Amounts → ℕ → Type 0
IsGone places v = (k : ℕ) (amounts : Amounts) → slice_get places k ≡ Some amounts → kept_at amounts v ≡ None

-- no number is kept for any vertex
abbrev pub HasNoneLeft : List Amounts → Type 0
HasNoneLeft places = (v : ℕ) → IsGone places v

-- the vertex's numbers are taken off: they are those of the row, by place
pub record IsRow (old new : List Amounts) (v : ℕ) (row : List ℕ) : Type 0 where
  pub len : length new ≡ length old
  pub places : length row ≡ length old
  pub each : (k : ℕ) (amounts : Amounts) → slice_get old k ≡ Some amounts →
      (rest : Amounts) × (n : ℕ) × (slice_get new k ≡ Some rest) × (slice_get row k ≡ Some n) × IsTaken amounts rest v n
  pub fewer : count_all new + count_some row ≤ count_all old
  pub less : IsLeft old v → count_all new < count_all old

-- the numbers of a vertex are taken off that has some
pub record IsRowTaken (old new : List Amounts) (v : ℕ) (row : List ℕ) : Type 0 where
  pub was : IsLeft old v
  pub row_is : IsRow old new v row
