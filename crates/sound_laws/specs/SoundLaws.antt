-- What keeps a state sound, as statements.
use Rattle.std.specs.Prelude.{ℕ, List, [], ◌∷◌, ◌++◌}
use Rattle.flux_defs.specs.declared.vertices.Vertex.{Vertex}
use Rattle.flux_defs.specs.declared.claims.Job.{Job}
use Rattle.flux_defs.specs.declared.requests.Ask.{Ask}
use Rattle.flux_defs.specs.declared.journal.Entry.{Entry}
use Rattle.flux_defs.specs.Graph.{ResourceGraph}
use Rattle.flux_defs.specs.ValidGraph.{IsValidGraph}
use Rattle.flux_defs.specs.Needs.{AreValidNeeds}
use Rattle.flux_defs.specs.Asks.{IsLowestFirst}
use Rattle.flux_defs.specs.Scheduler.{Setting, without_job}
use Rattle.flux_defs.specs.Histories.{IsLegal, HasProperCommands}
use Rattle.flux_defs.specs.Sound.{IsSound, IsSoundThroughout}
use Rattle.flux_defs.specs.Present.{up_with}

-- A job with the lowest-first claims of valid needs over its own time joins sound jobs soundly.
abbrev pub AcceptingKeepsSound : Type 0
AcceptingKeepsSound = (g : ResourceGraph) (names : List (List ℕ)) →
    IsValidGraph g names → (jobs : List Job) (ask : Ask) → AreValidNeeds g.vertices ask.needs →
    (job : Job) → IsLowestFirst g.vertices (up_with jobs) ask (record { from = job.start; to = job.end }) job.claims →
    IsSound g.vertices jobs → IsSound g.vertices (jobs ++ job ∷ [])

-- Sound jobs are sound without the one that is cancelled.
abbrev pub CancellingKeepsSound : Type 0
CancellingKeepsSound =
    (vertices : List Vertex) (jobs : List Job) (id : ℕ) → IsSound vertices jobs → IsSound vertices (without_job id jobs)

-- A legal history of proper commands over a valid graph leaves a sound state after each of its entries.
abbrev pub LegalIsSound : Type 0
LegalIsSound = (g : Setting) (names : List (List ℕ)) → IsValidGraph g.graph names → (history : List Entry) →
    HasProperCommands g.graph.vertices history → IsLegal g history → IsSoundThroughout g.graph.vertices history
