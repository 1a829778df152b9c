-- How many steps a search takes.
use Rattle.std.specs.Prelude.{◌≡◌, ℕ, ◌+◌, ◌*◌, ◌≤◌, ◌⊎◌, List, length, slice_get, Any, codes, Result, Ok, Err}
use Rattle.std.specs.Option.{IsSomeAnd}
use Rattle.flux_defs.specs.declared.vertices.Vertex.{Vertex}
use Rattle.flux_defs.specs.declared.requests.Ask.{Ask}
use Rattle.flux_defs.specs.declared.journal.Command.{Command}
use Rattle.flux_defs.specs.declared.journal.Command.TheVariants as command
use Rattle.flux_defs.specs.declared.verdicts.Verdict.{Verdict}
use Rattle.flux_defs.specs.declared.verdicts.Verdict.TheVariants as verdict
use Rattle.flux_defs.specs.Asks.{window_of}
use Rattle.flux_defs.specs.Digits.{dig}
use Rattle.flux_defs.specs.Graph.{ResourceGraph}
use Rattle.flux_defs.specs.Scheduler.{Setting, present_of}
use Rattle.flux_defs.specs.Present.{Present, InEach, IsUpWith}
use Rattle.book_laws.specs.Grouped.{count_claims}
use Rattle.dfu_match.specs.Tables.{needs_all}
use Rattle.dfu_match.specs.Pairs.{IsEnoughFor}
use Rattle.earliest_search.specs.Tried.{TakesTries}
use Rattle.book_state.specs.declared.held.BookState.{BookState}
use Rattle.book_state.specs.Books.{StandsFor, IsTotalKept, cost_of}
use Rattle.sched_core.specs.declared.finding.Starts.{Starts}
use Rattle.sched_core.specs.declared.finding.Starts.TheVariants as starts
use Rattle.sched_core.specs.Courses.{Course, state_of}
use Rattle.sched_core.specs.Searched.{Searched}

-- the last moment that is tried: the start that was found, else the horizon
abbrev pub last_of : ℕ → Verdict → ℕ
last_of horizon (verdict.Found start claims) = start
last_of horizon v = horizon

-- the same of an answer
abbrev pub last_in : {E : Type 0} → ℕ → Result Verdict E → ℕ
last_in horizon (Ok v) = last_of horizon v
last_in horizon (Err e) = horizon

abbrev pub last_found : {E : Type 0} → ℕ → Result Searched E → ℕ
last_found horizon (Ok c) = last_of horizon c.verdict
last_found horizon (Err e) = horizon

-- whether the graph without jobs serves an ask: each pair of a need, inner ones too, and a vertex at most
abbrev pub satisfy_most : List Vertex → Ask → ℕ
satisfy_most vertices ask =
    (length (needs_all ask.needs) + 2) * (length (needs_all ask.needs) * length vertices)

-- over the vertices, what stands, the totals that are kept and what an answer costs, with a horizon and the present
-- moment
module _ (vertices : List Vertex) (present : Present) (keeps : ℕ → ℕ → Type 0) (cost horizon moment : ℕ) where
  -- from `old` steps to `new` ones for an ask at these starts: a match at the present moment, or at each moment tried
  abbrev pub SearchTakes : Starts → Ask → ℕ → ℕ → ℕ → Type 0
  SearchTakes starts.Now ask last old new =
      (looks : ℕ) → IsEnoughFor vertices present (window_of horizon ask moment) keeps ask.needs looks →
      new ≤ old + looks * cost
  SearchTakes starts.Earliest ask last old new = TakesTries vertices present keeps cost horizon ask moment last old new

  -- the same of a command, with the look for the id, and whether the ask is satisfiable
  abbrev pub CommandTakes : ℕ → Command → ℕ → ℕ → ℕ → Type 0
  CommandTakes find (command.Allocate id ask) last old new =
      SearchTakes starts.Now ask last (old + find + satisfy_most vertices ask) new
  CommandTakes find (command.Reserve id ask) last old new =
      SearchTakes starts.Earliest ask last (old + find + satisfy_most vertices ask) new
  CommandTakes find (command.Satisfy ask) last old new = new ≤ old + satisfy_most vertices ask
  CommandTakes find c last old new = Unit {0}

-- so many steps are taken over a book, whatever it stands for
abbrev pub BookTakes : {E : Type 0} → ResourceGraph → ℕ → BookState → ℕ → Starts → Ask → Result Verdict E → ℕ → ℕ →
    Type 0
BookTakes g horizon book moment starts ask result old new =
    InEach (IsUpWith (StandsFor book)) (λ present.
    SearchTakes g.vertices present (IsTotalKept book) (cost_of book) horizon moment starts ask (last_in horizon result)
    old new)

-- the setting's filter rules keep totals of this type (the second) at this vertex (the first)
abbrev pub IsKindKeptAt : Setting → ℕ → ℕ → Type 0
IsKindKeptAt g v kind =
    IsSomeAnd (slice_get g.graph.vertices v) (λ x.
    IsSomeAnd (slice_get g.graph.kinds x.kind) (λ high.
    IsSomeAnd (slice_get g.graph.kinds kind) (λ low.
    Any (λ pair. (pair.1 ≡ low) × ((pair.0 ≡ high) ⊎ (pair.0 ≡ codes "ALL"))) g.rules)))

-- the binary digits of what the trees of a course hold: the claims of its jobs twice, and the ids that were ever
-- accepted
abbrev pub digits_held : Course → ℕ
digits_held course = dig (2 * count_claims (state_of course).jobs + length (state_of course).used + 4)

-- so many steps are taken for a command in the state of a course
abbrev pub CourseTakes : Course → Command → ℕ → ℕ → ℕ → Type 0
CourseTakes course c last old new =
    CommandTakes course.setting.graph.vertices (present_of (state_of course)) (IsKindKeptAt course.setting)
    (512 * digits_held course) course.setting.horizon (state_of course).moment (16 * digits_held course) c last old new
