-- The scheduler of one thread: its state, and its reply to each command.
use Rattle.std.specs.Prelude.{◌≡◌, ℕ, ◌+◌, ◌<◌, ◌≤◌, ◌==◌, not, nat_lt, if◌then◌else◌, ◌⊎◌, List, [], ◌∷◌, ◌++◌, length}
use Rattle.std.specs.Prelude.{filter, Contains, Option, IsSome, MatchOption}
use Rattle.std.specs.List.{find}
use Rattle.flux_defs.specs.declared.vertices.Vertex.{Vertex}
use Rattle.flux_defs.specs.declared.claims.Job.{Job}
use Rattle.flux_defs.specs.declared.requests.Ask.{Ask}
use Rattle.flux_defs.specs.declared.journal.Phase.{Phase}
use Rattle.flux_defs.specs.declared.journal.Phase.TheVariants.{Planned, Running, Ended}
use Rattle.flux_defs.specs.declared.journal.Command.{Command}
use Rattle.flux_defs.specs.declared.journal.Command.TheVariants as command
use Rattle.flux_defs.specs.declared.journal.Reply.{Reply}
use Rattle.flux_defs.specs.declared.journal.Reply.TheVariants as reply
use Rattle.flux_defs.specs.Graph.{ResourceGraph}
use Rattle.flux_defs.specs.Needs.{IsProperAsk}
use Rattle.flux_defs.specs.Present.{Present, up_with}
use Rattle.flux_defs.specs.Asks.{window_of, CountsWithin, SomeFit, IsLowestFirst, IsStart, IsEarliest, IsSatisfiable}

-- What never changes: the graph, the pairs HIGH:LOW of the filter rules, the horizon in seconds, and how many claims
-- may be accepted in all. The rules change no reply.
pub record Setting : Type 0 where
  pub graph : ResourceGraph
  pub rules : List (List ℕ × List ℕ)
  pub horizon : ℕ
  pub claim_limit : ℕ

-- The present moment, the jobs that were accepted and not cancelled, the ids that were ever accepted, and how many
-- claims the accepted jobs had.
pub record State : Type 0 where
  pub moment : ℕ
  pub jobs : List Job
  pub used : List ℕ
  pub claim_count : ℕ

-- what stands in a state
abbrev pub present_of : State → Present
present_of s = up_with s.jobs

-- moment 0, no jobs, no ids, no claims
abbrev pub first_state : State
first_state = record { moment = 0; jobs = []; used = []; claim_count = 0 }

-- the command's ask, if it has one, is proper for the graph
abbrev pub IsProper : List Vertex → Command → Type 0
IsProper vertices (command.Allocate id ask) = IsProperAsk vertices ask
IsProper vertices (command.Reserve id ask) = IsProperAsk vertices ask
IsProper vertices (command.Satisfy ask) = IsProperAsk vertices ask
IsProper vertices c = Unit {0}

-- the answer is this one where the fact holds, and else goes on as `otherwise` says
abbrev pub Where : {X : Type 0} → Type 0 → X → (X → Type 0) → X → Type 0
Where fact answer otherwise x = (fact × (x ≡ answer)) ⊎ ((fact → ⊥) × otherwise x)

-- the answer is this one unless the fact holds, and then goes on as `otherwise` says
abbrev pub Unless : {X : Type 0} → Type 0 → X → (X → Type 0) → X → Type 0
Unless fact answer otherwise x = ((fact → ⊥) × (x ≡ answer)) ⊎ (fact × otherwise x)

-- the job has this id and start, the lowest-first claims over the ask's window there, and ends with that window
pub record IsAcceptedAs (g : Setting) (s : State) (id start : ℕ) (ask : Ask) (job : Job) : Type 0 where
  pub id-is : job.id ≡ id
  pub start-is : job.start ≡ start
  pub end-is : job.end ≡ (window_of g.horizon ask start).to
  pub lowest : IsLowestFirst g.graph.vertices (present_of s) ask (window_of g.horizon ask start) job.claims

-- a job that starts now is allocated, and one that starts later is reserved
abbrev pub accepted_reply : ℕ → Job → Reply
accepted_reply moment job = if job.start == moment then reply.Allocated job else reply.Reserved job

-- the job is accepted, unless the claims of all accepted jobs with its own would be too many
abbrev pub AcceptedOrFull : Setting → State → ℕ → Ask → ℕ → Reply → Type 0
AcceptedOrFull g s id ask start r =
    (job : Job) × IsAcceptedAs g s id start ask job
    × Where (g.claim_limit < s.claim_count + length job.claims) reply.Full (λ r. r ≡ accepted_reply s.moment job) r

-- the job of this id, if it was accepted and not cancelled
abbrev pub job_with : ℕ → List Job → Option Job
job_with id jobs = find (λ job. job.id == id) jobs

-- planned before the start, running from the start on and before the end, ended from the end on
abbrev pub phase_at : ℕ → Job → Phase
phase_at m job = if nat_lt m job.start then Planned else if nat_lt m job.end then Running else Ended

-- the reply to info: phase, start and end
abbrev pub info_at : ℕ → Job → Reply
info_at m job = reply.Info (phase_at m job) job.start job.end

-- the answer to an ask for a job: `known` where the id was accepted before, `unsatisfiable` where no claims would fit
-- the graph without jobs, `too_long` where the window at the present moment doesn't count, and else as `by_starts` says
abbrev pub AnswersJob : {X : Type 0} → Setting → State → ℕ → Ask → X → X → X → (X → Type 0) → X → Type 0
AnswersJob g s id ask known unsatisfiable too_long by_starts =
    Where (Contains s.used id) known
    (Unless (IsSatisfiable g.graph.vertices ask) unsatisfiable
    (Unless (CountsWithin g.horizon ask s.moment) too_long by_starts))

-- the reply to an ask for a job
abbrev pub JobReplies : Setting → State → ℕ → Ask → (Reply → Type 0) → Reply → Type 0
JobReplies g s id ask = AnswersJob g s id ask reply.Exists reply.Unsatisfiable reply.TooLong

-- the reply to a command in a state: the first refusal whose fact holds, or what stands after them
abbrev pub Replies : Setting → State → Command → Reply → Type 0
Replies g s (command.Allocate id ask) =
    JobReplies g s id ask
    (Unless (SomeFit g.graph.vertices (present_of s) ask (window_of g.horizon ask s.moment)) reply.Busy
    (AcceptedOrFull g s id ask s.moment))
Replies g s (command.Reserve id ask) =
    JobReplies g s id ask
    (Unless ((t : ℕ) × (s.moment ≤ t) × IsStart g.graph.vertices (present_of s) g.horizon ask t) reply.NoStart
    (λ r. (t : ℕ) × IsEarliest g.graph.vertices (present_of s) g.horizon ask s.moment t × AcceptedOrFull g s id ask t
    r))
Replies g s (command.Satisfy ask) =
    Unless (IsSatisfiable g.graph.vertices ask) reply.Unsatisfiable (λ r. r ≡ reply.Satisfiable)
Replies g s (command.Cancel id) = Unless (IsSome (job_with id s.jobs)) reply.Absent (λ r. r ≡ reply.Cancelled)
Replies g s (command.Info id) =
    λ r. MatchOption (job_with id s.jobs) (r ≡ reply.Absent) (λ job. r ≡ info_at s.moment job)
Replies g s (command.Advance to) =
    Where (to < s.moment) reply.Backwards
    (Where (g.horizon < to) reply.Beyond (λ r. r ≡ reply.Now to))
Replies g s (command.Invalid why) = λ r. r ≡ reply.Invalid

-- the state with one more accepted job
abbrev pub with_job : State → Job → State
with_job s job =
    record {
      moment = s.moment;
      jobs = s.jobs ++ job ∷ [];
      used = s.used ++ job.id ∷ [];
      claim_count = s.claim_count + length job.claims;
    }

-- the jobs that are left once the one of this id is cancelled
abbrev pub without_job : ℕ → List Job → List Job
without_job id jobs = filter (λ job. not (job.id == id)) jobs

-- the state after an accepted cancel
abbrev pub after_cancel : State → Command → State
after_cancel s (command.Cancel id) = record s { jobs = without_job id s.jobs }
after_cancel s c = s

-- the state after a command and its reply; a refusal changes nothing
abbrev pub after : State → Command → Reply → State
after s c (reply.Allocated job) = with_job s job
after s c (reply.Reserved job) = with_job s job
after s c reply.Cancelled = after_cancel s c
after s c (reply.Now at) = record s { moment = at }
after s c r = s
