-- Later windows for which what a window tells holds too.
use Rattle.std.specs.Prelude.{ℕ, ◌<◌, ◌≤◌, Option, MatchOption}
use Rattle.flux_defs.specs.declared.claims.Window.{Window}

-- the other window, which isn't empty, begins at `until` or before and ends no sooner than this one
abbrev pub ReachesOver : Window → ℕ → Window → Type 0
ReachesOver w until other = (other.from ≤ until) × (w.to ≤ other.to) × (other.from < other.to)

-- it is so over each window that reaches over w from this moment on; or not over w, where there is none
abbrev pub IsSoUntil : (Window → Type 0) → Window → Option ℕ → Type 0
IsSoUntil P w found = MatchOption found (P w → ⊥) (λ m. (other : Window) → ReachesOver w m other → P other)
