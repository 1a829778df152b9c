-- Which jobs a book of accounts stands for.
use Rattle.std.specs.Prelude.{◌≡◌, ℕ, ◌+◌, ◌<◌, ◌≤◌, false, IsTrue, List, length, Some, slice_get}
use Rattle.std.specs.List.{AllByRecursion}
use Rattle.std.specs.Arc.{arc_value}
use Rattle.flux_defs.specs.declared.vertices.Vertex.{Vertex}
use Rattle.flux_defs.specs.declared.claims.Claim.{Claim}
use Rattle.flux_defs.specs.declared.claims.Job.{Job}
use Rattle.flux_defs.specs.Graph.{is_at_or_below}
use Rattle.flux_defs.specs.Jobs.{vertex_of}
use Rattle.planner_points.specs.declared.spans.Span.{Span}
use Rattle.book_laws.specs.Amounts.{is_hold}
use Rattle.book_laws.specs.Grouped.{AreKept, times_of, count_claims}
use Rattle.book_laws.specs.TotalLaws.{AreFair}
use Rattle.vertex_planners.specs.Lists.{items_of, AreWide, at_place}
use Rattle.vertex_planners.specs.Counting.{counts_at}
use Rattle.vertex_accounts.specs.declared.quantities.Quantity.{Quantity}
use Rattle.vertex_accounts.specs.declared.counted.Counted.{Counted}
use Rattle.vertex_accounts.specs.declared.books.Accounts.{Accounts}
use Rattle.vertex_accounts.specs.Quantities.{amount_in, total_in}
use Rattle.vertex_accounts.specs.Counts.{types_in, AreCounted}

-- what is counted at each place
abbrev pub counted_of : {P : Type 0} → Accounts P → Counted
counted_of book = arc_value book.counted

-- of how many types totals are kept
abbrev pub types_of : {P : Type 0} → Accounts P → ℕ
types_of book = types_in (arc_value book.counted)

-- the units of this type have this place
abbrev pub HasPlace : {P : Type 0} → Accounts P → ℕ → ℕ → Type 0
HasPlace book kind place = slice_get (arc_value book.counted).places kind ≡ Some (Some place)

-- the book keeps totals of this type
abbrev pub HasTotals : {P : Type 0} → Accounts P → ℕ → Type 0
HasTotals book kind = (place : ℕ) × HasPlace book kind place

-- what is counted is of the graph of these vertices, and each vertex has a planner for each place
pub record ArePlanned {P : Type 0} (vertices : List Vertex) (counted : Counted) (items : List (List P)) : Type 0 where
  pub counts : AreCounted vertices counted
  pub len : length items ≡ length vertices
  pub places : AreWide (length counted.quantities) items

-- the accounts are of the graph of these vertices
abbrev pub AreAccountsOf : {P : Type 0} → List Vertex → Accounts P → Type 0
AreAccountsOf vertices book = ArePlanned vertices (arc_value book.counted) (items_of book.planners)

-- the planners of each place have at each vertex what the claims of the jobs amount to there
abbrev pub AreAllKept : {P : Type 0} →
    (P → ℕ) → (P → List Span → Type 0) → List Vertex → List Job → Counted → List (List P) → Type 0
AreAllKept total_of stands_for vertices jobs counted items =
    (k : ℕ) (q : Quantity) → slice_get counted.quantities k ≡ Some q →
    AreKept total_of stands_for (total_in vertices q) (amount_in vertices q) jobs (at_place k items)

-- a job begins before it ends, and its claims are on vertices of the graph
pub record IsOnGraph (vertices : List Vertex) (job : Job) : Type 0 where
  pub begins : job.start < job.end
  pub on_vertices : AllByRecursion (λ c. vertex_of c < length vertices) job.claims

-- each claim of each job has the property
abbrev pub OfEachClaim : (Claim → Type 0) → List Job → Type 0
OfEachClaim P jobs = AllByRecursion (λ job. AllByRecursion P job.claims) jobs

-- v has more than so many vertices at or below it: one of those that stand so far behind it is
abbrev pub IsWider : List Vertex → ℕ → ℕ → Type 0
IsWider vertices most v =
    (k : ℕ) × (most ≤ k) × (v + k < length vertices) × IsTrue (is_at_or_below vertices (v + k) v)

-- the claim holds no vertex that has
abbrev pub HoldsNoWider : List Vertex → ℕ → Claim → Type 0
HoldsNoWider vertices most c = (v : ℕ) → IsWider vertices most v → is_hold v c ≡ false

-- no job holds one
abbrev pub HoldNoWider : List Vertex → ℕ → List Job → Type 0
HoldNoWider vertices most jobs = OfEachClaim (HoldsNoWider vertices most) jobs

-- v has fewer than so many vertices at or below it: those that are stand nearer behind it than a lesser number
abbrev pub IsNarrower : List Vertex → ℕ → ℕ → Type 0
IsNarrower vertices least v = (n : ℕ) × (n < least)
    × ((k : ℕ) → v + k < length vertices → IsTrue (is_at_or_below vertices (v + k) v) → k < n)

-- the claim counts at no vertex that has
abbrev pub CountsNoNarrower : List Vertex → ℕ → Claim → Type 0
CountsNoNarrower vertices least c = (v : ℕ) → IsNarrower vertices least v → counts_at vertices v c ≡ false

-- no claim of a job counts at one
abbrev pub CountNoNarrower : List Vertex → ℕ → List Job → Type 0
CountNoNarrower vertices least jobs = OfEachClaim (CountsNoNarrower vertices least) jobs

-- the planners have what the claims of the jobs amount to, the planner of times has the time of each, their claims are
-- counted, and it is noted how wide the vertices are at most that they hold, and at least at which their claims count
pub record AreAccounts {P : Type 0} (total_of : P → ℕ)
    (stands_for : P → List Span → Type 0) (vertices : List Vertex) (jobs : List Job) (book : Accounts P) : Type 0 where
  pub graph : AreAccountsOf vertices book
  pub kept : AreAllKept total_of stands_for vertices jobs (arc_value book.counted) (items_of book.planners)
  pub times : stands_for book.times (times_of jobs)
  pub count : book.count ≡ count_claims jobs
  pub widths : HoldNoWider vertices book.widest jobs
  pub counting : CountNoNarrower vertices book.narrowest jobs
  pub fair : AreFair vertices jobs
  pub on_graph : AllByRecursion (IsOnGraph vertices) jobs

-- the other accounts have the parts of these
pub record HaveSameParts {P : Type 0} (book other : Accounts P) : Type 0 where
  pub counted : counted_of other ≡ counted_of book
  pub planners : items_of other.planners ≡ items_of book.planners
  pub times : other.times ≡ book.times
  pub count : other.count ≡ book.count
  pub widest : other.widest ≡ book.widest
  pub narrowest : other.narrowest ≡ book.narrowest
