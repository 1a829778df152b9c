-- Jobs, and when they are live.
use Rattle.std.specs.Prelude.{◌≡◌, ℕ, ◌<◌, ◌≤◌, ◌⊎◌, Bool, false, ◌&&◌, ◌==◌, nat_le, nat_lt, if◌then◌else◌, List, []}
use Rattle.std.specs.Prelude.{◌∷◌}
use Rattle.std.specs.List.{list_any}
use Rattle.flux_defs.specs.declared.vertices.Vertex.{Vertex}
use Rattle.flux_defs.specs.declared.claims.Claim.{Claim}
use Rattle.flux_defs.specs.declared.claims.Claim.TheVariants.{Take, Hold, Pass}
use Rattle.flux_defs.specs.declared.claims.Job.{Job}
use Rattle.flux_defs.specs.declared.claims.Window.{Window}
use Rattle.flux_defs.specs.Graph.{is_at_or_below}

-- the vertex that a claim is on
abbrev pub vertex_of : Claim → ℕ
vertex_of (Take v q) = v
vertex_of (Hold v) = v
vertex_of (Pass v) = v

-- a job that was accepted and not cancelled is live from its start on and before its end
abbrev pub is_live : ℕ → Job → Bool
is_live m job = nat_le job.start m && nat_lt m job.end

-- the claim holds v or a vertex above it
abbrev pub holds_over : List Vertex → ℕ → Claim → Bool
holds_over vertices v (Take u q) = false
holds_over vertices v (Hold u) = is_at_or_below vertices v u
holds_over vertices v (Pass u) = false

-- the claim is on v or below it
abbrev pub is_on_or_below : List Vertex → ℕ → Claim → Bool
is_on_or_below vertices v c = is_at_or_below vertices (vertex_of c) v

-- how many units of v the claim takes; a claim that is no take of v takes none
abbrev pub take_of : ℕ → Claim → ℕ
take_of v (Take u q) = if u == v then q else 0
take_of v (Hold u) = 0
take_of v (Pass u) = 0

-- some job that is live at m has a claim that passes the test
abbrev pub some_live_claim : List Job → ℕ → (Claim → Bool) → Bool
some_live_claim jobs m test = list_any (λ job. is_live m job && list_any test job.claims) jobs

-- at each moment of the window
abbrev pub EachMoment : Window → (ℕ → Type 0) → Type 0
EachMoment w P = (m : ℕ) → w.from ≤ m → m < w.to → P m

-- at some moment of the window
abbrev pub SomeMoment : Window → (ℕ → Type 0) → Type 0
SomeMoment w P = (m : ℕ) × (w.from ≤ m) × (m < w.to) × P m

-- a job starts or ends at the moment
abbrev pub IsPoint : List Job → ℕ → Type 0
IsPoint [] p = ⊥
IsPoint (job ∷ jobs) p = ((p ≡ job.start) ⊎ (p ≡ job.end)) ⊎ IsPoint jobs p

-- the least start or end of a job that is later than a moment
pub record IsNextPoint (jobs : List Job) (after p : ℕ) : Type 0 where
  pub later : after < p
  pub point : IsPoint jobs p
  pub least : (q : ℕ) → after < q → IsPoint jobs q → p ≤ q
