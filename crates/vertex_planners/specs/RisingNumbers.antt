-- Lists of the numbers of rising vertices.
use Rattle.std.specs.Prelude.{◌≡◌, ℕ, ◌+◌, ◌<◌, ◌≤◌, ◌==◌, if◌then◌else◌, List, [], ◌∷◌, length, ⊤, Option, None, Some}
use Rattle.std.specs.List.{HoldsAt}
use Rattle.std.specs.List.Sorted.{IsPartitionPoint}
use Rattle.std.specs.Coded.{×_prop, Unit-prop, le_prop}
use Rattle.vertex_planners.specs.declared.numbers.Number.{Number}

-- the vertices rise, each one past the one before it, from low on
abbrev pub Rises : ℕ → List Number → Type 0
Rises low [] = ⊤
Rises low (n ∷ rest) = (low ≤ n.vertex) × Rises (n.vertex + 1) rest

-- two proofs that the vertices rise are the same
pub Rises-prop : (low : ℕ) (numbers : List Number) → IsProp (Rises low numbers)
Rises-prop low [] = Unit-prop
Rises-prop low (n ∷ rest) = ×_prop le_prop (Rises-prop (n.vertex + 1) rest)

-- the number of the vertex, if it is in the list
unfoldable pub kept_in : List Number → ℕ → Option ℕ
kept_in [] v = None
kept_in (n ∷ rest) v = if n.vertex == v then Some n.amount else kept_in rest v

-- the vertex stands at the place
pub record StandsAt (numbers : List Number) (v place : ℕ) : Type 0 where
  pub within : place < length numbers
  pub is : HoldsAt (λ n. n.vertex ≡ v) numbers place

-- the vertex isn't in the list, and those before the place alone are less
pub record IsGapFor (numbers : List Number) (v place : ℕ) : Type 0 where
  pub within : place ≤ length numbers
  pub parts : IsPartitionPoint (λ n. n.vertex < v) (λ n. v < n.vertex) numbers place
