-- Numbers by vertices.
use Rattle.std.specs.Prelude.{◌≡◌, ◌≢◌, ℕ, ◌+◌, ◌<◌, if◌then◌else◌, Option, None, is_some, unwrap_or, IsSome, length}
use Rattle.vertex_planners.specs.declared.amounts.Amounts.{Amounts}
use Rattle.vertex_planners.specs.RisingNumbers.{kept_in}

-- the number that is kept for a vertex
abbrev pub kept_at : Amounts → ℕ → Option ℕ
kept_at amounts v = kept_in amounts.numbers.items v

-- the vertex's number: the one that is kept, and else 0
abbrev pub amount_at : Amounts → ℕ → ℕ
amount_at amounts v = unwrap_or (kept_at amounts v) 0

-- for how many vertices a number is kept
abbrev pub count_of : Amounts → ℕ
count_of amounts = length amounts.numbers.items

-- numbers are kept for vertices before this one alone
abbrev pub HasKeysBelow : ℕ → Amounts → Type 0
HasKeysBelow most amounts = (v : ℕ) → IsSome (kept_at amounts v) → v < most

-- the number of v is taken off, if one was kept
pub record IsTaken (old new : Amounts) (v n : ℕ) : Type 0 where
  pub was : amount_at old v ≡ n
  pub gone : kept_at new v ≡ None
  pub others : (u : ℕ) → u ≢ v → kept_at new u ≡ kept_at old u
  pub fewer : count_of new + (if is_some (kept_at old v) then 1 else 0) ≡ count_of old
