-- Asks over time: windows, what fits an ask, its earliest start, and whether it is satisfiable.
use Rattle.std.specs.Prelude.{ℕ, ◌+◌, ◌<◌, ◌≤◌, ◌==◌, if◌then◌else◌, List}
use Rattle.flux_defs.specs.declared.vertices.Vertex.{Vertex}
use Rattle.flux_defs.specs.declared.claims.Claim.{Claim}
use Rattle.flux_defs.specs.declared.claims.Window.{Window}
use Rattle.flux_defs.specs.declared.requests.Ask.{Ask}
use Rattle.flux_defs.specs.Graph.{Everywhere}
use Rattle.flux_defs.specs.Present.{Present, bare}
use Rattle.flux_defs.specs.Closed.{Scene}
use Rattle.flux_defs.specs.Available.{IsAvailable}
use Rattle.flux_defs.specs.Fits.{Fits}
use Rattle.flux_defs.specs.Lowest.{Lowest}

-- the window of an ask at t: as many seconds as its duration, or to the horizon where its duration is 0
abbrev pub window_of : ℕ → Ask → ℕ → Window
window_of horizon ask t = record { from = t; to = if ask.duration == 0 then horizon else t + ask.duration }

-- that window counts: it isn't empty, and ends at the horizon or before
abbrev pub CountsWithin : ℕ → Ask → ℕ → Type 0
CountsWithin horizon ask t = (t < horizon) × (t + ask.duration ≤ horizon)

-- what the ask meets
abbrev pub scene_of : List Vertex → Present → Ask → Scene
scene_of vertices present ask = record { vertices = vertices; present = present; barred = ask.barred }

-- The claims fit the ask, and are its lowest-first claims, where `ok` says which claims are available.
-- (An ask that lists several counts would range over them in these two, and nowhere else.)
abbrev pub FitsAsk : List Vertex → (Claim → Type 0) → Ask → List Claim → Type 0
FitsAsk vertices ok ask claims = Fits vertices ok 1 Everywhere ask.needs claims

abbrev pub IsLowestOfAsk : List Vertex → (Claim → Type 0) → Ask → List Claim → Type 0
IsLowestOfAsk vertices ok ask claims = Lowest vertices ok 1 Everywhere ask.needs claims

-- some claims fit the ask over the window
abbrev pub SomeFit : List Vertex → Present → Ask → Window → Type 0
SomeFit vertices present ask w =
    (claims : List Claim) × FitsAsk vertices (IsAvailable (scene_of vertices present ask) w) ask claims

-- the claims are the ask's lowest-first claims over the window
abbrev pub IsLowestFirst : List Vertex → Present → Ask → Window → List Claim → Type 0
IsLowestFirst vertices present ask w claims =
    IsLowestOfAsk vertices (IsAvailable (scene_of vertices present ask) w) ask claims

-- the ask may start at t: its window there counts, and some claims fit it
abbrev pub IsStart : List Vertex → Present → ℕ → Ask → ℕ → Type 0
IsStart vertices present horizon ask t = CountsWithin horizon ask t × SomeFit vertices present ask
    (window_of horizon ask t)

-- t is the earliest start from `moment` on
pub record IsEarliest (vertices : List Vertex) (present : Present) (horizon : ℕ) (ask : Ask) (moment t : ℕ) :
    Type 0 where
  pub later : moment ≤ t
  pub starts : IsStart vertices present horizon ask t
  pub least : (u : ℕ) → moment ≤ u → IsStart vertices present horizon ask u → t ≤ u

-- some claims fit the graph without jobs and with every vertex up; the ask's bars count, its duration doesn't
abbrev pub IsSatisfiable : List Vertex → Ask → Type 0
IsSatisfiable vertices ask = SomeFit vertices bare ask (record { from = 0; to = 1 })
