-- What a walk over the entries from a place on looks for.
use Rattle.std.specs.Prelude.{◌≡◌, ℕ, ◌<◌, List, length, Option, Some, None, IsTrue}
use Rattle.std.specs.List.{AllByRecursion, list_any}
use Rattle.flux_defs.specs.declared.vertices.Vertex.{Vertex}
use Rattle.flux_defs.specs.declared.claims.Claim.{Claim}
use Rattle.flux_defs.specs.declared.claims.Job.{Job}
use Rattle.flux_defs.specs.declared.claims.Window.{Window}
use Rattle.flux_defs.specs.declared.requests.Ask.{Ask}
use Rattle.flux_defs.specs.declared.journal.Command.{Command}
use Rattle.flux_defs.specs.declared.journal.Command.TheVariants as command
use Rattle.flux_defs.specs.declared.journal.Reply.{Reply}
use Rattle.flux_defs.specs.declared.journal.Reply.TheVariants as reply
use Rattle.flux_defs.specs.declared.journal.Entry.{Entry}
use Rattle.flux_defs.specs.declared.verdicts.Verdict.{Verdict}
use Rattle.flux_defs.specs.declared.verdicts.Verdict.TheVariants.{Found}
use Rattle.flux_defs.specs.Jobs.{vertex_of}
use Rattle.flux_defs.specs.Closed.{no_bars}
use Rattle.flux_defs.specs.Available.{IsAvailable}
use Rattle.flux_defs.specs.Asks.{window_of, CountsWithin}
use Rattle.flux_defs.specs.Histories.{state_at}
use Rattle.flux_defs.specs.Overtaken as over
use Rattle.flux_defs.specs.Overtaken.{Candidate, HasEntry, HasAccepted, Frees, Blocks, conflicts, IsFirstFrom}
use Rattle.flux_defs.specs.Overtaken.{IsFirstTaken, NoneFrom}
use Rattle.flux_defs.specs.Scheduler.{present_of}
use Rattle.flux_defs.specs.Present.{Present}
use Rattle.commit_laws.specs.CommitLaws.{state_now}
use Rattle.overtaken_check.specs.declared.causes.Cause.{Cause}
use Rattle.overtaken_check.specs.declared.causes.Cause.TheVariants as cause

-- the cause in the definition's words
abbrev pub cause_of : Cause → over.Cause
cause_of (cause.Freed at) = over.Freed at
cause_of (cause.Late at) = over.Late at
cause_of (cause.Taken at claim) = over.Taken at claim

-- moments that come too late: each, or each past the last one
abbrev pub IsTooLate : Option ℕ → ℕ → Type 0
IsTooLate None m = Unit {0}
IsTooLate (Some last) m = last < m

-- the moment after a reply
abbrev pub moment_past : ℕ → Reply → ℕ
moment_past m (reply.Now at) = at
moment_past m r = m

-- the reply moves time on, from a moment to one that comes too late
abbrev pub MovesPast : Option ℕ → ℕ → Reply → Type 0
MovesPast last moment r = (m : ℕ) × (r ≡ reply.Now m) × (moment < m) × IsTooLate last m

-- entry `at` moved time on to a moment that comes too late
abbrev pub DelaysPast : Option ℕ → List Entry → ℕ → Type 0
DelaysPast last history at = (e : Entry) × HasEntry history at e × MovesPast last (state_at history at).moment e.reply

-- the job overlaps the window and has a claim in the way of this one
abbrev pub IsInWay : List Vertex → Window → Claim → Job → Type 0
IsInWay vertices w claim job =
    (job.start < w.to) × (w.from < job.end) × IsTrue (list_any (conflicts vertices claim) job.claims)

-- the entry accepted such a job
abbrev pub AcceptsInWay : List Vertex → Window → Claim → Entry → Type 0
AcceptsInWay vertices w claim e = (job : Job) × HasAccepted e job × IsInWay vertices w claim job

-- the first cancel from the place on, or the first advance to a moment that comes too late where nothing is cancelled
abbrev pub IsHindered : Option ℕ → List Entry → ℕ → Cause → Type 0
IsHindered last history place (cause.Freed at) = IsFirstFrom (Frees history) place at
IsHindered last history place (cause.Late at) =
    NoneFrom (Frees history) place × IsFirstFrom (DelaysPast last history) place at
IsHindered last history place (cause.Taken at claim) = ⊥

-- there is neither
abbrev pub IsUnhindered : Option ℕ → List Entry → ℕ → Type 0
IsUnhindered last history place = NoneFrom (Frees history) place × NoneFrom (DelaysPast last history) place

-- the first of the claims that isn't available any more, and the first entry in its way
abbrev pub IsTakenFrom : List Vertex → Present → Window → List Claim → List Entry → ℕ → Cause → Type 0
IsTakenFrom vertices present w claims history place (cause.Taken at index) =
    (claim : Claim) × IsFirstTaken vertices present w claims index claim
    × IsFirstFrom (Blocks vertices w claim history) place at
IsTakenFrom vertices present w claims history place c = ⊥

-- nothing overtook the claims
abbrev pub IsFree : List Vertex → Window → List Claim → Option ℕ → List Entry → ℕ → Type 0
IsFree vertices w claims last history place =
    IsUnhindered last history place
    × AllByRecursion (IsAvailable (no_bars vertices (present_of (state_now history))) w) claims

-- why claims that were found are overtaken: the first of the three kinds that holds
abbrev pub IsWhy : List Vertex → Window → List Claim → Option ℕ → List Entry → ℕ → Cause → Type 0
IsWhy vertices w claims last history place (cause.Freed at) = IsHindered last history place (cause.Freed at)
IsWhy vertices w claims last history place (cause.Late at) = IsHindered last history place (cause.Late at)
IsWhy vertices w claims last history place (cause.Taken at claim) =
    IsUnhindered last history place
    × IsTakenFrom vertices (present_of (state_now history)) w claims history place (cause.Taken at claim)

-- the candidate of a command, a place and a verdict
abbrev pub candidate_of : Command → ℕ → Verdict → Candidate
candidate_of c place v = record { command = c; place = place; verdict = v }

-- the claims were available over the window, and are on vertices of the graph
abbrev pub WereClaimed : List Vertex → Present → Window → List Claim → Type 0
WereClaimed vertices present w claims =
    AllByRecursion (λ c. IsAvailable (no_bars vertices present) w c × (vertex_of c < length vertices)) claims

-- where claims were found for an ask, its window counts and they were available over it
abbrev pub WasFoundFor : List Vertex → ℕ → Present → Ask → ℕ → List Claim → Type 0
WasFoundFor vertices horizon present ask start claims =
    CountsWithin horizon ask start × WereClaimed vertices present (window_of horizon ask start) claims

-- the verdict may be one on the command: claims are found for an allocate or a reserve
abbrev pub MayBeFound : List Vertex → ℕ → Present → Verdict → Command → Type 0
MayBeFound vertices horizon present (Found start claims) (command.Allocate id ask) =
    WasFoundFor vertices horizon present ask start claims
MayBeFound vertices horizon present (Found start claims) (command.Reserve id ask) =
    WasFoundFor vertices horizon present ask start claims
MayBeFound vertices horizon present (Found start claims) c = ⊥
MayBeFound vertices horizon present v c = Unit {0}
