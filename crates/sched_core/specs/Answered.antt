-- What is found of a command, and how it is answered.
use Rattle.std.specs.Prelude.{◌≡◌, ℕ, ◌+◌, ◌≤◌, List, [], ◌∷◌, ◌++◌, length, IsSome}
use Rattle.flux_defs.specs.declared.requests.Ask.{Ask}
use Rattle.flux_defs.specs.declared.journal.Command.{Command}
use Rattle.flux_defs.specs.declared.journal.Command.TheVariants as command
use Rattle.flux_defs.specs.declared.journal.Entry.{Entry}
use Rattle.flux_defs.specs.declared.journal.Reply.{Reply}
use Rattle.flux_defs.specs.declared.journal.Reply.TheVariants as reply
use Rattle.flux_defs.specs.Asks.{CountsWithin}
use Rattle.flux_defs.specs.Graph.{ResourceGraph}
use Rattle.flux_defs.specs.Needs.{IsProperAsk}
use Rattle.flux_defs.specs.Scheduler.{Setting, State, Replies, job_with}
use Rattle.flux_defs.specs.declared.verdicts.Verdict.{Verdict}
use Rattle.flux_defs.specs.declared.verdicts.Verdict.TheVariants as verdict
use Rattle.flux_defs.specs.Verdicts.{FindsNow, FindsEarliest, YieldsJob}
use Rattle.prune_filters.specs.declared.rules.Rule.{Rule}
use Rattle.book_state.specs.declared.held.BookState.{BookState}
use Rattle.book_state.specs.Books.{MayAdd, vertices_of}
use Rattle.sched_core.specs.declared.finding.Starts.{Starts}
use Rattle.sched_core.specs.declared.finding.Starts.TheVariants as starts
use Rattle.sched_core.specs.Courses.{Course, state_of, left_by, setting_of, IsBookOf}

-- what is found of an ask at the starts that it may have
abbrev pub FindsAt : Starts → Setting → State → Ask → Verdict → Type 0
FindsAt starts.Now g s ask = FindsNow g s ask
FindsAt starts.Earliest g s ask = FindsEarliest g s ask

-- a book over the graph's vertices is searched for a proper ask
pub record MayFind (g : ResourceGraph) (book : BookState) (ask : Ask) : Type 0 where
  pub over : vertices_of book ≡ g.vertices
  pub proper : IsProperAsk g.vertices ask

-- it is found in each state that the book may be of at this moment, whatever the rules and the limit
abbrev pub FoundIn : ResourceGraph → ℕ → BookState → ℕ → (Setting → State → Type 0) → Type 0
FoundIn g horizon book moment Finds =
    (rules : List Rule) (limit : ℕ) (journal : List Entry) → IsBookOf journal book → moment ≡ (left_by journal).moment →
    Finds (setting_of g rules horizon limit) (left_by journal)

-- the command that asks for a job at these starts, and its reply where nothing fits
abbrev pub command_of : Starts → ℕ → Ask → Command
command_of starts.Now id ask = command.Allocate id ask
command_of starts.Earliest id ask = command.Reserve id ask

abbrev pub none_at : Starts → Reply
none_at starts.Now = reply.Busy
none_at starts.Earliest = reply.NoStart

-- a verdict on an allocate or a reserve: a start that was found has a window that counts
abbrev pub IsOfJob : ℕ → Ask → Verdict → Type 0
IsOfJob horizon ask (verdict.Found start claims) = CountsWithin horizon ask start
IsOfJob horizon ask verdict.Sat = ⊥
IsOfJob horizon ask v = Unit {0}

-- the reply to an allocate or a reserve by what was found in this very state; `none` is the reply where nothing fits
abbrev pub Answers : Setting → State → ℕ → Ask → Reply → Verdict → Reply → Type 0
Answers g s id ask none verdict.Known = λ r. r ≡ reply.Exists
Answers g s id ask none v = YieldsJob g s id ask none v

-- a command that cancels a job which is there
abbrev pub Cancels : State → Command → Type 0
Cancels s (command.Cancel id) = IsSome (job_with id s.jobs)
Cancels s c = ⊥

-- the book may follow the reply: an accepted job may be added, and a cancelled one is there
abbrev pub MayFollow : BookState → State → Command → Reply → Type 0
MayFollow book s c (reply.Allocated job) = MayAdd book job
MayFollow book s c (reply.Reserved job) = MayAdd book job
MayFollow book s c reply.Cancelled = Cancels s c
MayFollow book s c r = Unit {0}

-- a reply after which the state is as before
abbrev pub ChangesNothing : Reply → Type 0
ChangesNothing (reply.Allocated job) = ⊥
ChangesNothing (reply.Reserved job) = ⊥
ChangesNothing reply.Cancelled = ⊥
ChangesNothing (reply.Now at) = ⊥
ChangesNothing r = Unit {0}

-- the claims of an accepted job are within the limit, with those of all jobs before
abbrev pub HasRoom : ℕ → ℕ → Reply → Type 0
HasRoom limit claims (reply.Allocated job) = claims + length job.claims ≤ limit
HasRoom limit claims (reply.Reserved job) = claims + length job.claims ≤ limit
HasRoom limit claims r = Unit {0}

-- One entry was appended, with the reply of the scheduler of one thread in the state before; the setting stays.
pub record IsDecided (old new : Course) (client line : ℕ) (command : Command) : Type 0 where
  pub setting : new.setting ≡ old.setting
  pub answer : Reply
  pub replies : Replies old.setting (state_of old) command answer
  pub journal : new.journal ≡ old.journal ++ record
      { client = client; line = line; command = command; reply = answer } ∷ []
