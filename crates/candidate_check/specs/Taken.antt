-- Which claim of a candidate is gone.
use Rattle.std.specs.Prelude.{ℕ, List}
use Rattle.flux_defs.specs.declared.vertices.Vertex.{Vertex}
use Rattle.flux_defs.specs.declared.claims.Claim.{Claim}
use Rattle.flux_defs.specs.declared.claims.Window.{Window}
use Rattle.flux_defs.specs.Overtaken.{IsFirstTaken}
use Rattle.flux_defs.specs.Present.{Present}

-- the claim with this index is the first that isn't available over the window to an ask that bars nothing
abbrev pub IsFirstGone : List Vertex → Present → Window → List Claim → ℕ → Type 0
IsFirstGone vertices present w claims index = (claim : Claim) × IsFirstTaken vertices present w claims index claim
