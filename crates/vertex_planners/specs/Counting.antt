-- At which vertices a claim counts: at its own and those above it, but a hold only above the vertex that it holds,
-- since that it is held says it there.
use Rattle.std.specs.Prelude.{ℕ, Bool, false, ◌&&◌, nat_lt, if◌then◌else◌, List}
use Rattle.flux_defs.specs.declared.vertices.Vertex.{Vertex}
use Rattle.flux_defs.specs.declared.claims.Claim.{Claim}
use Rattle.flux_defs.specs.Jobs.{is_on_or_below}
use Rattle.book_laws.specs.Amounts.{is_hold}

-- the claim holds v itself, and v isn't the root
abbrev pub holds_own : ℕ → Claim → Bool
holds_own v c = nat_lt 0 v && is_hold v c

-- The claim counts at v: it is on v or below it, and doesn't hold v itself. At the root a hold of it counts too.
abbrev pub counts_at : List Vertex → ℕ → Claim → Bool
counts_at vertices v c = if holds_own v c then false else is_on_or_below vertices v c
