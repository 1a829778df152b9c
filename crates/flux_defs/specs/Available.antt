-- When a claim is available over a window.
use Rattle.std.specs.Prelude.{ℕ, Bool, not, ◌&&◌, nat_le, IsTrue}
use Rattle.flux_defs.specs.declared.claims.Claim.{Claim}
use Rattle.flux_defs.specs.declared.claims.Claim.TheVariants.{Take, Hold, Pass}
use Rattle.flux_defs.specs.declared.claims.Window.{Window}
use Rattle.flux_defs.specs.Jobs.{EachMoment}
use Rattle.flux_defs.specs.Closed.{Scene, is_closed, is_touched}
use Rattle.flux_defs.specs.Free.{free_at}

-- a take is, where so much is free; a hold, where the vertex is neither closed nor touched; a pass, where it isn't
-- closed
abbrev pub is_available_at : Scene → ℕ → Claim → Bool
is_available_at s m (Take v q) = nat_le q (free_at s m v)
is_available_at s m (Hold v) = not (is_closed s m v) && not (is_touched s m v)
is_available_at s m (Pass v) = not (is_closed s m v)

-- available at each moment of the window
abbrev pub IsAvailable : Scene → Window → Claim → Type 0
IsAvailable s w c = EachMoment w (λ m. IsTrue (is_available_at s m c))
