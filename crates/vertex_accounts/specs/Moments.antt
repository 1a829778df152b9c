-- A moment of a window at which something is so, and one through which it stays so.
use Rattle.std.specs.Prelude.{ℕ, ◌<◌, ◌≤◌, Option, MatchOption}
use Rattle.flux_defs.specs.declared.claims.Window.{Window}
use Rattle.flux_defs.specs.Jobs.{SomeMoment}

-- it is so at this moment of the window; or at none, where there is none
abbrev pub IsMomentOrNone : Window → (ℕ → Type 0) → Option ℕ → Type 0
IsMomentOrNone w P found = MatchOption found (SomeMoment w P → ⊥) (λ m. (w.from ≤ m) × (m < w.to) × P m)

-- it is so from a moment of the window through this one; or at none, where there is none
abbrev pub IsThroughOrNone : Window → (ℕ → Type 0) → Option ℕ → Type 0
IsThroughOrNone w P found = MatchOption found (SomeMoment w P → ⊥)
    (λ m. (t : ℕ) × (w.from ≤ t) × (t < w.to) × (t ≤ m) × ((u : ℕ) → t ≤ u → u ≤ m → P u))
