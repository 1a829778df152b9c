-- What a match over a window may come to.
use Rattle.std.specs.Prelude.{◌≡◌, ℕ, ◌<◌, ◌≤◌, List}
use Rattle.flux_defs.specs.declared.vertices.Vertex.{Vertex}
use Rattle.flux_defs.specs.declared.claims.Window.{Window}
use Rattle.flux_defs.specs.declared.requests.Ask.{Ask}
use Rattle.flux_defs.specs.Asks.{SomeFit, IsLowestFirst}
use Rattle.flux_defs.specs.Present.{Present}
use Rattle.prune_filters.specs.Demands.{needs_demand, capped}
use Rattle.prune_filters.specs.Shorts.{IsBelowAt}
use Rattle.dfu_match.specs.Pairs.{IsRootShort}
use Rattle.dfu_match.specs.Reaches.{NoneUntil}
use Rattle.dfu_match.specs.declared.matching.Matched.{Matched}
use Rattle.dfu_match.specs.declared.matching.Matched.TheVariants.{Fits, Short, NoFit}

-- Over these vertices, what stands and kept totals the match of the ask comes to the lowest-first claims; or none fit,
-- and the root's total of a kind is below what the needs demand of it in full, at a moment of the window; or none fit,
-- and no kept total there is, nor do any fit over windows that reach over this one from a moment on.
abbrev pub IsMatched : List Vertex → Present → (ℕ → ℕ → Type 0) → Ask → Window → Matched → Type 0
IsMatched vertices present keeps ask w (Fits claims) = IsLowestFirst vertices present ask w claims
IsMatched vertices present keeps ask w (Short s) =
    (SomeFit vertices present ask w → ⊥) × IsBelowAt vertices present keeps 0 s.demand.kind s.demand.amount s.moment
    × (s.moment < w.to) × (s.demand.amount ≡ capped (needs_demand vertices s.demand.kind ask.needs))
IsMatched vertices present keeps ask w (NoFit until) =
    (SomeFit vertices present ask w → ⊥) × (IsRootShort vertices present w keeps ask.needs → ⊥)
    × NoneUntil (SomeFit vertices present ask) w until

-- the total that is too small is one that is kept at the root, and what is told of a moment is of one not before this
abbrev pub IsKeptShort : (ℕ → ℕ → Type 0) → ℕ → Matched → Type 0
IsKeptShort keeps from (Fits claims) = Unit {0}
IsKeptShort keeps from (Short s) = keeps 0 s.demand.kind × (from ≤ s.moment)
IsKeptShort keeps from (NoFit until) = from ≤ until
