-- What is free of a vertex, and of a kind at a vertex and below it (planners and aggregates, as flux-sched has them).
use Rattle.std.specs.Prelude.{◌≡◌, ℕ, ◌-◌, ◌<◌, ◌≤◌, ◌&&◌, ◌==◌, if◌then◌else◌, List, sum_by}
use Rattle.std.specs.List.{enumerate_from}
use Rattle.flux_defs.specs.declared.vertices.Vertex.{Vertex}
use Rattle.flux_defs.specs.declared.claims.Job.{Job}
use Rattle.flux_defs.specs.declared.claims.Window.{Window}
use Rattle.flux_defs.specs.Graph.{is_at_or_below, is_pool, size_of}
use Rattle.flux_defs.specs.Jobs.{is_live, take_of, EachMoment, SomeMoment}
use Rattle.flux_defs.specs.Present.{Present, all_up}
use Rattle.flux_defs.specs.Closed.{Scene, no_bars, is_closed}

-- what the jobs that are live at m take of v together
abbrev pub taken_at : List Job → ℕ → ℕ → ℕ
taken_at jobs m v = sum_by (λ job. if is_live m job then sum_by (take_of v) job.claims else 0) jobs

-- free of v at m: nothing where it is closed, else of a pool its size less the live takes, and of any other vertex 1
abbrev pub free_at : Scene → ℕ → ℕ → ℕ
free_at s m v =
    if is_closed s m v then 0
    else if is_pool s.vertices v then (size_of s.vertices v - taken_at s.present.jobs m v)
    else 1

-- the total of a kind at v at m: what would be free, were nothing barred and every vertex up, of its vertices at v or
-- below it
abbrev pub total_at : List Vertex → Present → ℕ → ℕ → ℕ → ℕ
total_at vertices present kind m v =
    sum_by
    (λ (u, x).
    if (x.kind == kind) && is_at_or_below vertices u v then free_at (no_bars vertices (all_up present)) m u else 0)
    (enumerate_from 0 vertices)

-- n is the least of these numbers over the window
pub record IsLeastIn (w : Window) (number_at : ℕ → ℕ) (n : ℕ) : Type 0 where
  pub each : EachMoment w (λ m. n ≤ number_at m)
  pub reached : SomeMoment w (λ m. number_at m ≡ n)

-- n is the least that is free of v over the window
abbrev pub IsFreeIn : Scene → Window → ℕ → ℕ → Type 0
IsFreeIn s w v n = IsLeastIn w (λ m. free_at s m v) n

-- the same to an ask that bars nothing
abbrev pub IsFreeOver : List Vertex → Present → Window → ℕ → ℕ → Type 0
IsFreeOver vertices present w v n = IsFreeIn (no_bars vertices present) w v n

-- n is the least total of the kind at v over the window
abbrev pub IsTotalOver : List Vertex → Present → Window → ℕ → ℕ → ℕ → Type 0
IsTotalOver vertices present w kind v n = IsLeastIn w (λ m. total_at vertices present kind m v) n

-- the total of the kind at v is below the amount at m
abbrev pub IsTooLittleAt : List Vertex → Present → ℕ → ℕ → ℕ → ℕ → Type 0
IsTooLittleAt vertices present v kind amount m = total_at vertices present kind m v < amount

-- the same at some moment of the window
abbrev pub IsTooLittle : List Vertex → Present → Window → ℕ → ℕ → ℕ → Type 0
IsTooLittle vertices present w v kind amount = SomeMoment w (IsTooLittleAt vertices present v kind amount)
