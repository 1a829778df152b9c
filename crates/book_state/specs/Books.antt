-- The book of jobs: what it is seen as, and which jobs it stands for.
use Rattle.std.specs.Prelude.{◌≡◌, ℕ, ◌+◌, ◌*◌, ◌<◌, ◌≤◌, None, Some, List, length, slice_get}
use Rattle.std.specs.Option.{IsSomeAnd}
use Rattle.std.specs.List.{AllByRecursion}
use Rattle.std.specs.Arc.{arc_value}
use Rattle.std.specs.Ordering.{nat_cmp}
use Rattle.std.specs.FinMap.{FinMap, get, len}
use Rattle.flux_defs.specs.declared.vertices.Vertex.{Vertex}
use Rattle.flux_defs.specs.declared.claims.Job.{Job}
use Rattle.flux_defs.specs.Digits.{dig}
use Rattle.flux_defs.specs.Jobs.{vertex_of}
use Rattle.flux_defs.specs.Closed.{no_bars}
use Rattle.flux_defs.specs.Available.{IsAvailable}
use Rattle.flux_defs.specs.Sound.{AreAllSeparate}
use Rattle.flux_defs.specs.Present.{up_with}
use Rattle.resource_graph.specs.NamedGraph.{NamedGraph}
use Rattle.prune_filters.specs.declared.rules.Rule.{Rule}
use Rattle.job_table.specs.declared.tables.Row.{Row}
use Rattle.prune_filters.specs.Filters.{IsKept, IsCounted}
use Rattle.book_laws.specs.Amounts.{TakesFromPool}
use Rattle.planner_min_tree.specs.Plans as Plans
use Rattle.planner_min_tree.specs.Plans.{Plan}
use Rattle.vertex_accounts.specs.declared.books.Accounts.{Accounts}
use Rattle.vertex_accounts.specs.Books.{AreAccounts, HasTotals, types_of}
use Rattle.book_state.specs.Ties.{Agree}
use Rattle.book_state.specs.declared.held.Kept.{Kept}

-- the graph
abbrev pub graph_of : Kept → NamedGraph
graph_of book = (arc_value book.filtered).graph

-- its vertices
abbrev pub vertices_of : Kept → List Vertex
vertices_of book = (arc_value book.filtered).graph.resources.vertices

-- the filter rules
abbrev pub rules_of : Kept → List Rule
rules_of book = (arc_value book.filtered).rules

-- the horizon, in seconds
abbrev pub horizon_of : Kept → ℕ
horizon_of book = book.horizon

-- the present moment, in seconds
abbrev pub moment_of : Kept → ℕ
moment_of book = book.moment

-- the rows of all jobs that were ever accepted, by their ids
abbrev pub rows_of : Kept → FinMap nat_cmp Row
rows_of book = book.table

-- the rules keep totals of this type (the second) at vertices of that one (the first): some rule has these two
abbrev pub IsPairKept : NamedGraph → List Rule → ℕ → ℕ → Type 0
IsPairKept graph rules upper kind = IsSomeAnd (slice_get graph.resources.kinds upper)
    (λ high. IsSomeAnd (slice_get graph.resources.kinds kind) (λ low. IsKept rules high low))

-- the rules keep a total of this type (the second) at this vertex (the first)
abbrev pub IsTotalKept : Kept → ℕ → ℕ → Type 0
IsTotalKept book v kind =
    IsSomeAnd (slice_get (vertices_of book) v) (λ x. IsPairKept (graph_of book) (rules_of book) x.kind kind)

-- the accounts of a book
abbrev pub accounts_of : Kept → Accounts Plan
accounts_of book = book.accounts

-- Over this graph, with these rules, accounts and rows stand for these jobs: the accounts do, exactly the jobs' ids
-- have live rows, of which there are no more than rows, and totals are kept of each type that a rule names, and of no
-- more types than there are rules.
pub record StandsIn (graph : NamedGraph)
    (rules : List Rule) (accounts : Accounts Plan) (rows : FinMap nat_cmp Row) (jobs : List Job) : Type 0 where
  pub accounts_are : AreAccounts (λ (p : Plan). p.total) Plans.StandsFor graph.resources.vertices jobs accounts
  pub ties : Agree rows jobs
  pub few : length jobs ≤ len rows
  pub kinds : (kind : ℕ) (name : List ℕ) →
      slice_get graph.resources.kinds kind ≡ Some name → IsCounted rules name → HasTotals accounts kind
  pub types : types_of accounts ≤ length rules

-- the book stands for these jobs
abbrev pub StandsFor : Kept → List Job → Type 0
StandsFor book jobs = StandsIn (graph_of book) (rules_of book) (accounts_of book) (rows_of book) jobs

-- some jobs are there for which the book stands
abbrev pub IsBook : Kept → Type 0
IsBook book = (jobs : List Job) × StandsFor book jobs

-- the other book has the graph, the rules and the horizon of this one
pub record HaveOneSetting (book other : Kept) : Type 0 where
  pub graph : graph_of other ≡ graph_of book
  pub rules : rules_of other ≡ rules_of book
  pub horizon : horizon_of other ≡ horizon_of book

-- The job may be added: its time isn't empty and ends at the horizon or before; each claim is on a vertex of the graph,
-- takes are from pools, and any two claims are separate; over its time each claim is available beside the jobs that the
-- book stands for; and its id is new.
pub record MayAdd (book : Kept) (job : Job) : Type 0 where
  pub begins : job.start < job.end
  pub ends : job.end ≤ horizon_of book
  pub on_vertices : AllByRecursion (λ c. vertex_of c < length (vertices_of book)) job.claims
  pub from_pools : AllByRecursion (TakesFromPool (vertices_of book)) job.claims
  pub separate : AreAllSeparate (vertices_of book) job.claims
  pub available : (jobs : List Job) → StandsFor book jobs →
      AllByRecursion
      (IsAvailable (no_bars (vertices_of book) (up_with jobs)) (record { from = job.start; to = job.end })) job.claims
  pub fresh : get (rows_of book) job.id ≡ None

-- how many steps an answer about the book takes at most: n is the number of its jobs' claims, g that of the ids that
-- were ever added
abbrev pub cost_of : Kept → ℕ
cost_of book = 512 * dig (2 * book.accounts.count + len (rows_of book) + 4)

-- how many steps a job more or less takes at most, of so many claims
abbrev pub change_cost_of : Kept → ℕ → ℕ
change_cost_of book claims =
    8192 * (claims + 1) * (1 + length (rules_of book)) * dig
    (2 * book.accounts.count + len (rows_of book) + 4)
