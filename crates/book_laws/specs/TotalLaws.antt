-- The total of a kind at a vertex, as statements: over jobs that don't oversubscribe a vertex and take from pools
-- alone.
use Rattle.std.specs.Prelude.{◌≡◌, ℕ, ◌+◌, ◌≤◌, true, false, List}
use Rattle.std.specs.List.{AllByRecursion}
use Rattle.flux_defs.specs.declared.vertices.Vertex.{Vertex}
use Rattle.flux_defs.specs.declared.claims.Job.{Job}
use Rattle.flux_defs.specs.Graph.{ResourceGraph}
use Rattle.flux_defs.specs.ValidGraph.{StandsInPreorder}
use Rattle.flux_defs.specs.Closed.{no_bars, is_closed}
use Rattle.flux_defs.specs.Free.{total_at}
use Rattle.flux_defs.specs.Present.{up_with}
use Rattle.book_laws.specs.Amounts.{live_sum, capacity, part_within, AreWithinSizes, TakesFromPool}

-- the jobs oversubscribe no vertex, and take from pools alone
pub record AreFair (vertices : List Vertex) (jobs : List Job) : Type 0 where
  pub within : AreWithinSizes vertices jobs
  pub pools : AllByRecursion (λ job. AllByRecursion (TakesFromPool vertices) job.claims) jobs

-- Where a vertex is not closed, the total and the parts of live jobs are the capacity together.
abbrev pub TotalsAddUp : Type 0
TotalsAddUp = (g : ResourceGraph) → StandsInPreorder g → (jobs : List Job) → AreFair g.vertices jobs → (kind v m : ℕ) →
    is_closed (no_bars g.vertices (up_with jobs)) m v ≡ false →
    total_at g.vertices (up_with jobs) kind m v + live_sum (part_within g.vertices kind v) jobs m ≡ capacity g.vertices
    kind v

-- Where a vertex is closed its total is 0.
abbrev pub ClosedHasNone : Type 0
ClosedHasNone = (g : ResourceGraph) → StandsInPreorder g → (jobs : List Job) → (kind v m : ℕ) →
    is_closed (no_bars g.vertices (up_with jobs)) m v ≡ true → total_at g.vertices (up_with jobs) kind m v ≡ 0

-- The parts of live jobs are at most the capacity.
abbrev pub PartsHaveRoom : Type 0
PartsHaveRoom = (g : ResourceGraph) →
    StandsInPreorder g → (jobs : List Job) → AreFair g.vertices jobs → (kind v m : ℕ) →
    live_sum (part_within g.vertices kind v) jobs m ≤ capacity g.vertices kind v
