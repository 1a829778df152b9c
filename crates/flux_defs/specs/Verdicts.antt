-- The verdict of a search: what the scheduler would reply where it is searched, room for the claims left aside; and the
-- reply that a verdict yields in a state.
use Rattle.std.specs.Prelude.{◌≡◌, ℕ, ◌+◌, ◌<◌, ◌≤◌, List, length, Contains}
use Rattle.flux_defs.specs.declared.claims.Claim.{Claim}
use Rattle.flux_defs.specs.declared.claims.Job.{Job}
use Rattle.flux_defs.specs.declared.requests.Ask.{Ask}
use Rattle.flux_defs.specs.declared.journal.Command.{Command}
use Rattle.flux_defs.specs.declared.journal.Command.TheVariants as command
use Rattle.flux_defs.specs.declared.journal.Reply.{Reply}
use Rattle.flux_defs.specs.declared.journal.Reply.TheVariants as reply
use Rattle.flux_defs.specs.declared.verdicts.Verdict.{Verdict}
use Rattle.flux_defs.specs.declared.verdicts.Verdict.TheVariants.{Found, NoFit, Unsat, Sat, Long, Known}
use Rattle.flux_defs.specs.Asks.{window_of, SomeFit, IsLowestFirst, IsStart, IsEarliest, IsSatisfiable}
use Rattle.flux_defs.specs.Scheduler.{Setting, State, present_of, Where, Unless, AnswersJob, accepted_reply}

-- a command that is searched for: an allocate, a reserve or a satisfy
abbrev pub IsSearchable : Command → Type 0
IsSearchable (command.Allocate id ask) = Unit {0}
IsSearchable (command.Reserve id ask) = Unit {0}
IsSearchable (command.Satisfy ask) = Unit {0}
IsSearchable c = ⊥

-- the lowest-first claims at the start
abbrev pub FoundAt : Setting → State → Ask → ℕ → Verdict → Type 0
FoundAt g s ask start v =
    (claims : List Claim)
    × IsLowestFirst g.graph.vertices (present_of s) ask (window_of g.horizon ask start) claims ×
    (v ≡ Found start claims)

-- what is found of an ask at the present moment alone
abbrev pub FindsNow : Setting → State → Ask → Verdict → Type 0
FindsNow g s ask =
    Unless (SomeFit g.graph.vertices (present_of s) ask (window_of g.horizon ask s.moment)) NoFit
    (FoundAt g s ask s.moment)

-- what is found of an ask at its earliest start
abbrev pub FindsEarliest : Setting → State → Ask → Verdict → Type 0
FindsEarliest g s ask =
    Unless ((t : ℕ) × (s.moment ≤ t) × IsStart g.graph.vertices (present_of s) g.horizon ask t) NoFit
    (λ v. (t : ℕ) × IsEarliest g.graph.vertices (present_of s) g.horizon ask s.moment t × FoundAt g s ask t v)

-- what is found of an ask for a job of this id, by what is found at the starts that it may have
abbrev pub FindsJob : Setting → State → ℕ → Ask → (Verdict → Type 0) → Verdict → Type 0
FindsJob g s id ask = AnswersJob g s id ask Known Unsat Long

-- what a search of the state finds of a command
abbrev pub Finds : Setting → State → Command → Verdict → Type 0
Finds g s (command.Allocate id ask) = FindsJob g s id ask (FindsNow g s ask)
Finds g s (command.Reserve id ask) = FindsJob g s id ask (FindsEarliest g s ask)
Finds g s (command.Satisfy ask) = Unless (IsSatisfiable g.graph.vertices ask) Unsat (λ v. v ≡ Sat)
Finds g s c = λ v. ⊥

-- the job with these claims at this start
abbrev pub job_of : Setting → ℕ → Ask → ℕ → List Claim → Job
job_of g id ask start claims =
    record { id = id; start = start; end = (window_of g.horizon ask start).to; claims = claims }

-- the reply to an allocate or a reserve whose id is new, by its verdict; `none` is the reply where nothing fits
abbrev pub YieldsJob : Setting → State → ℕ → Ask → Reply → Verdict → Reply → Type 0
YieldsJob g s id ask none (Found start claims) =
    Where (g.claim_limit < s.claim_count + length claims) reply.Full
    (λ r. r ≡ accepted_reply s.moment (job_of g id ask start claims))
YieldsJob g s id ask none NoFit = λ r. r ≡ none
YieldsJob g s id ask none Unsat = λ r. r ≡ reply.Unsatisfiable
YieldsJob g s id ask none Long = λ r. r ≡ reply.TooLong
YieldsJob g s id ask none Sat = λ r. ⊥
YieldsJob g s id ask none Known = λ r. ⊥

-- the reply that a verdict yields in a state, which may be a later one than was searched
abbrev pub Yields : Setting → State → Command → Verdict → Reply → Type 0
Yields g s (command.Allocate id ask) v = Where (Contains s.used id) reply.Exists (YieldsJob g s id ask reply.Busy v)
Yields g s (command.Reserve id ask) v = Where (Contains s.used id) reply.Exists (YieldsJob g s id ask reply.NoStart v)
Yields g s (command.Satisfy ask) Sat = λ r. r ≡ reply.Satisfiable
Yields g s (command.Satisfy ask) Unsat = λ r. r ≡ reply.Unsatisfiable
Yields g s c v = λ r. ⊥
