-- What a search among numbers finds.
use Rattle.std.specs.Prelude.{ℕ, ◌<◌, Option, MatchOption}

-- true of no number
abbrev pub Nowhere : (ℕ → Type 0) → Type 0
Nowhere Holds = (v : ℕ) → Holds v → ⊥

-- v is the least number of which it is true
abbrev pub IsLeast : (ℕ → Type 0) → ℕ → Type 0
IsLeast Holds v = Holds v × ((u : ℕ) → u < v → Holds u → ⊥)

-- the least number of which it is true, and none exactly where it is true of none
abbrev pub IsFirstOf : (ℕ → Type 0) → Option ℕ → Type 0
IsFirstOf Holds found = MatchOption found (Nowhere Holds) (IsLeast Holds)
