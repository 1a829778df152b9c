-- The spans of jobs: one a job, of what its claims amount to.
use Rattle.std.specs.Prelude.{◌≡◌, ℕ, zero, suc, List, [], ◌∷◌, ◌++◌, length, sum_by, Some, slice_get}
use Rattle.flux_defs.specs.declared.claims.Claim.{Claim}
use Rattle.flux_defs.specs.declared.claims.Job.{Job}
use Rattle.flux_defs.specs.declared.claims.Window.{Window}
use Rattle.planner_points.specs.declared.spans.Span.{Span}
use Rattle.planner_points.specs.Spans.{span_of}

-- the time of a job, from its start on and before its end
abbrev pub time_of : Job → Window
time_of job = record { from = job.start; to = job.end }

-- a span of so much, and none of nothing
abbrev pub some_span : Window → ℕ → List Span
some_span window zero = []
some_span window (suc n) = span_of window (suc n) ∷ []

-- one span a job that has any: over its time, the sum over its claims of a number of each
abbrev pub grouped : (Claim → ℕ) → List Job → List Span
grouped f [] = []
grouped f (job ∷ jobs) = some_span (time_of job) (sum_by f job.claims) ++ grouped f jobs

-- one span a job, over its time, that takes nothing
abbrev pub times_of : List Job → List Span
times_of [] = []
times_of (job ∷ jobs) = span_of (time_of job) 0 ∷ times_of jobs

-- how many claims jobs have
abbrev pub count_claims : List Job → ℕ
count_claims jobs = sum_by (λ job. length job.claims) jobs

-- one planner a vertex, each of the vertex's total, which stands for the spans of what the jobs' claims amount to there
pub record AreKept {P : Type 0} (total_of : P → ℕ) (stands_for : P → List Span → Type 0)
    (total : ℕ → ℕ) (amount : ℕ → Claim → ℕ) (jobs : List Job) (planners : List P) : Type 0 where
  pub totals : (v : ℕ) (planner : P) → slice_get planners v ≡ Some planner → total_of planner ≡ total v
  pub spans : (v : ℕ) (planner : P) → slice_get planners v ≡ Some planner → stands_for planner (grouped (amount v) jobs)
