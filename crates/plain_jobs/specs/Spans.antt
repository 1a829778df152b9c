-- What a walk over a list of jobs finds of a window.
use Rattle.std.specs.Prelude.{◌≡◌, ◌≢◌, ℕ, ◌<◌, ◌≤◌, Bool, ◌&&◌, nat_le, nat_lt, if◌then◌else◌, min, List, Option, Some}
use Rattle.std.specs.Prelude.{None}
use Rattle.std.specs.List.{list_any}
use Rattle.flux_defs.specs.declared.claims.Claim.{Claim}
use Rattle.flux_defs.specs.declared.claims.Job.{Job}
use Rattle.flux_defs.specs.declared.claims.Window.{Window}
use Rattle.flux_defs.specs.Jobs.{EachMoment, SomeMoment}
use Rattle.flux_defs.specs.Free.{taken_at}

-- the job's time and the window have a moment in common
abbrev pub overlaps : Window → Job → Bool
overlaps w job = nat_lt job.start w.to && (nat_lt w.from job.end && nat_lt job.start job.end)

-- some job that overlaps the window has a claim that passes the test
abbrev pub some_overlap : List Job → Window → (Claim → Bool) → Bool
some_overlap jobs w test = list_any (λ job. overlaps w job && list_any test job.claims) jobs

-- the lesser of a moment that was found and this one, where it is later
abbrev pub lesser_of : Option ℕ → ℕ → ℕ → Option ℕ
lesser_of None after p = if nat_le p after then None else Some p
lesser_of (Some b) after p = if nat_le p after then Some b else Some (min b p)

-- n is the most that is taken of v at a moment of the window, up to a cap
pub record IsMostTaken (jobs : List Job) (w : Window) (v cap n : ℕ) : Type 0 where
  pub each : EachMoment w (λ m. min (taken_at jobs m v) cap ≤ n)
  pub reached : SomeMoment w (λ m. min (taken_at jobs m v) cap ≡ n)

-- n is raised to r by what is taken at the job's start, where the window has it
pub record Raises (jobs : List Job) (w : Window) (v cap n : ℕ) (job : Job) (r : ℕ) : Type 0 where
  pub least : n ≤ r
  pub covers : w.from ≤ job.start → job.start < w.to → min (taken_at jobs job.start v) cap ≤ r
  pub from : r ≢ n → (w.from ≤ job.start) × (job.start < w.to) × (r ≡ min (taken_at jobs job.start v) cap)
