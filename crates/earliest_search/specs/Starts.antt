-- Which starts need be tried.
use Rattle.std.specs.Prelude.{◌≢◌, ℕ, ◌+◌, List}
use Rattle.std.specs.List.{AllByRecursion}
use Rattle.flux_defs.specs.declared.vertices.Vertex.{Vertex}
use Rattle.flux_defs.specs.declared.requests.Ask.{Ask}
use Rattle.flux_defs.specs.Asks.{IsStart}
use Rattle.flux_defs.specs.declared.claims.Job.{Job}
use Rattle.flux_defs.specs.Present.{Present}

-- no job ends at this moment
abbrev pub NoneEnds : List Job → ℕ → Type 0
NoneEnds jobs t = AllByRecursion (λ job. job.end ≢ t) jobs

-- Starts wait for ends: an ask that may start at a moment at which no job ends may start a second earlier.
abbrev pub StartsWaitForEnds : Type 0
StartsWaitForEnds = (vertices : List Vertex) (present : Present) (horizon : ℕ) (ask : Ask) (t : ℕ) →
    NoneEnds present.jobs (t + 1) → IsStart vertices present horizon ask (t + 1) →
    IsStart vertices present horizon ask t
