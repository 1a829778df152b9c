-- Positions of a history, as lists of numbers.
use Rattle.std.specs.Prelude.{ℕ, ◌<◌, ◌==◌, nat_lt, if◌then◌else◌, List, [], ◌∷◌, All}
use Rattle.std.specs.List.{count_by}
use Rattle.std.specs.List.Sorted.{IsStrictlyIncreasing}

-- how often p stands in the list
abbrev pub times : ℕ → List ℕ → ℕ
times p positions = count_by (λ q. q == p) positions

-- The positions rise, and all are below n.
pub record RisesBelow (n : ℕ) (positions : List ℕ) : Type 0 where
  pub rising : IsStrictlyIncreasing positions
  pub below : All (λ p. p < n) positions

-- p at its place in a rising list
abbrev pub put_in : ℕ → List ℕ → List ℕ
put_in p [] = p ∷ []
put_in p (q ∷ qs) = if nat_lt p q then p ∷ q ∷ qs else q ∷ put_in p qs

-- the rising list of what two rising lists have
abbrev pub merged : List ℕ → List ℕ → List ℕ
merged [] qs = qs
merged (p ∷ ps) qs = put_in p (merged ps qs)
