-- What a scheduler of one thread is seen as, and what it keeps.
use Rattle.std.specs.Prelude.{◌≡◌, ℕ, ◌≤◌, List, [], ◌∷◌, ◌++◌, length, take, map, Contains, Some, None, if◌then◌else◌}
use Rattle.std.specs.Prelude.{MatchOption}
use Rattle.std.specs.Arc.{arc_value}
use Rattle.std.specs.FinMap.{get, len}
use Rattle.flux_defs.specs.declared.vertices.Vertex.{Vertex}
use Rattle.flux_defs.specs.declared.claims.Job.{Job}
use Rattle.flux_defs.specs.declared.journal.Command.{Command}
use Rattle.flux_defs.specs.declared.journal.Reply.{Reply}
use Rattle.flux_defs.specs.declared.journal.Entry.{Entry}
use Rattle.flux_defs.specs.Graph.{ResourceGraph}
use Rattle.flux_defs.specs.Scheduler.{Setting, State, first_state, job_with, Replies}
use Rattle.flux_defs.specs.Histories.{state_after, IsLegal, HasProperCommands}
use Rattle.flux_defs.specs.Overtaken.{HasEntry, HasAccepted}
use Rattle.resource_graph.specs.NamedGraph.{NamedGraph, IsWhole}
use Rattle.prune_filters.specs.declared.rules.Rule.{Rule}
use Rattle.job_table.specs.declared.tables.Row.{Row}
use Rattle.book_state.specs.declared.held.BookState.{BookState}
use Rattle.sched_core.specs.declared.held.Site.{Site}
use Rattle.sched_core.specs.declared.held.Kept.{Kept}
use Rattle.sched_core.specs.declared.held.Remains.{Remains}
use Rattle.sched_core.specs.declared.held.Keeping.{Keeping}
use Rattle.sched_core.specs.declared.held.Keeping.TheVariants as keeping
use Rattle.book_state.specs.Books.{graph_of, rules_of, horizon_of, moment_of, rows_of, StandsFor}
use Rattle.book_state.specs.Frames.{graph_in, rules_in, horizon_in}

-- a setting that never changes, and the journal
pub record Course : Type 0 where
  pub setting : Setting
  pub journal : List Entry

-- the state that a journal leaves
abbrev pub left_by : List Entry → State
left_by journal = state_after first_state journal

-- the state of a course: the one that its journal leaves
abbrev pub state_of : Course → State
state_of course = left_by course.journal

-- a filter rule as the pair of its types
abbrev pub pair_of : Rule → List ℕ × List ℕ
pair_of rule = (rule.high, rule.low)

-- the setting of these four
abbrev pub setting_of : ResourceGraph → List Rule → ℕ → ℕ → Setting
setting_of graph rules horizon limit = record
    { graph = graph; rules = map pair_of rules; horizon = horizon; claim_limit = limit }

-- a course without an entry
abbrev pub empty_course : ResourceGraph → List Rule → ℕ → ℕ → Course
empty_course graph rules horizon limit = record { setting = setting_of graph rules horizon limit; journal = [] }

-- The row of an id that was ever accepted: its place is that of the entry that accepted the id's job, and it is live
-- exactly where that job was not cancelled.
pub record IsRowOf (journal : List Entry) (s : State) (id : ℕ) (row : Row) : Type 0 where
  pub job : Job
  pub id-is : job.id ≡ id
  pub entry : Entry
  pub there : HasEntry journal row.at entry
  pub accepted : HasAccepted entry job
  pub used : Contains s.used id
  pub left : job_with id s.jobs ≡ (if row.live then Some job else None)

-- no job of this id was ever accepted
pub record IsNew (s : State) (id : ℕ) : Type 0 where
  pub unused : Contains s.used id → ⊥
  pub none : job_with id s.jobs ≡ None

-- The book stands for the jobs of the state, at its moment; exactly the ids that were ever accepted have rows, which
-- tell of the journal's entries; and there are no more rows than entries.
pub record IsBookAt (journal : List Entry) (s : State) (book : BookState) : Type 0 where
  pub jobs : StandsFor book s.jobs
  pub moment : moment_of book ≡ s.moment
  pub table : (id : ℕ) → MatchOption (get (rows_of book) id) (IsNew s id) (IsRowOf journal s id)
  pub few : len (rows_of book) ≤ length journal

-- the same of the state that the journal leaves
abbrev pub IsBookOf : List Entry → BookState → Type 0
IsBookOf journal book = IsBookAt journal (left_by journal) book

-- the graph of a site
abbrev pub graph_at : Site → NamedGraph
graph_at site = arc_value site.graph

abbrev pub vertices_at : Site → List Vertex
vertices_at site = (arc_value site.graph).resources.vertices

-- the journal that is kept
abbrev pub journal_in : Kept → List Entry
journal_in kept = kept.journal

-- what never changes, with the rules that the book keeps
abbrev pub setting_in : Site → Kept → Setting
setting_in site kept = setting_of (arc_value site.graph).resources (rules_of kept.book) site.horizon site.claim_limit

-- The graph is valid; the journal is a legal history of proper commands over it; and the book and the count of claims
-- are
-- those of the journal.
pub record IsCore (site : Site) (kept : Kept) : Type 0 where
  pub whole : IsWhole (graph_at site)
  pub graph-is : graph_of kept.book ≡ graph_at site
  pub horizon-is : horizon_of kept.book ≡ site.horizon
  pub legal : IsLegal (setting_in site kept) (journal_in kept)
  pub proper : HasProperCommands (vertices_at site) (journal_in kept)
  pub book-of : IsBookOf (journal_in kept) kept.book
  pub claims-are : kept.claim_count ≡ (left_by (journal_in kept)).claim_count

-- what is seen of a site and what is kept there
abbrev pub course_in : Site → Kept → Course
course_in site kept = record { setting = setting_in site kept; journal = journal_in kept }

-- what never changes, with the rules of the frame
abbrev pub setting_left : Site → Remains → Setting
setting_left site left = setting_of (arc_value site.graph).resources (rules_in left.frame) site.horizon site.claim_limit

-- The same without a book: its frame is of the site, and moment and count of claims are those of the journal.
pub record IsLeft (site : Site) (left : Remains) : Type 0 where
  pub whole : IsWhole (graph_at site)
  pub graph-is : graph_in left.frame ≡ graph_at site
  pub horizon-is : horizon_in left.frame ≡ site.horizon
  pub legal : IsLegal (setting_left site left) left.journal
  pub proper : HasProperCommands (vertices_at site) left.journal
  pub moment-is : left.moment ≡ (left_by left.journal).moment
  pub claims-are : left.claim_count ≡ (left_by left.journal).claim_count

-- what is kept is made again up to that place of the journal
pub record IsMadeTo (site : Site) (left : Remains) (n : ℕ) (kept : Kept) : Type 0 where
  pub core : IsCore site kept
  pub setting : setting_in site kept ≡ setting_left site left
  pub journal : journal_in kept ≡ take n left.journal

-- what is seen of a scheduler that keeps this
abbrev pub course_at : Site → Keeping → Course
course_at site (keeping.Whole kept) = course_in site kept
course_at site (keeping.Remains left) = record { setting = setting_left site left; journal = left.journal }
course_at site keeping.Nothing = record { setting = setting_of (arc_value site.graph).resources [] 0 0; journal = [] }

-- what a scheduler keeps is in order
abbrev pub IsKeptAt : Site → Keeping → Type 0
IsKeptAt site (keeping.Whole kept) = IsCore site kept
IsKeptAt site (keeping.Remains left) = IsLeft site left
IsKeptAt site keeping.Nothing = ⊥

-- it is seen as before, whatever became of the book
pub record Stays (site : Site) (kept : Kept) (k : Keeping) : Type 0 where
  pub in-order : IsKeptAt site k
  pub course : course_at site k ≡ course_in site kept

-- the next one has one entry more, and the same setting
pub record Grows (site : Site) (old new : Kept) (entry : Entry) : Type 0 where
  pub setting : setting_in site new ≡ setting_in site old
  pub journal : journal_in new ≡ journal_in old ++ entry ∷ []
  pub core : IsCore site new

-- one entry more, with the scheduler's reply
pub record Decides (site : Site) (old new : Kept) (client line : ℕ) (command : Command) : Type 0 where
  pub answer : Reply
  pub replies : Replies (setting_in site old) (left_by (journal_in old)) command answer
  pub grows : Grows site old new (record { client = client; line = line; command = command; reply = answer })
