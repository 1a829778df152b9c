-- What overtakes a candidate: the answer of a search, in a journal that has grown since.
use Rattle.std.specs.Prelude.{◌≡◌, ℕ, ◌<◌, ◌≤◌, ◌⊎◌, Bool, ◌||◌, ◌==◌, List, length, take, slice_get, Some, IsTrue, All}
use Rattle.std.specs.List.{list_any}
use Rattle.flux_defs.specs.declared.vertices.Vertex.{Vertex}
use Rattle.flux_defs.specs.declared.claims.Claim.{Claim}
use Rattle.flux_defs.specs.declared.claims.Claim.TheVariants.{Take, Hold, Pass}
use Rattle.flux_defs.specs.declared.claims.Job.{Job}
use Rattle.flux_defs.specs.declared.claims.Window.{Window}
use Rattle.flux_defs.specs.declared.journal.Command.{Command}
use Rattle.flux_defs.specs.declared.journal.Command.TheVariants as command
use Rattle.flux_defs.specs.declared.journal.Reply.TheVariants as reply
use Rattle.flux_defs.specs.declared.journal.Entry.{Entry}
use Rattle.flux_defs.specs.Jobs.{vertex_of, holds_over, is_on_or_below}
use Rattle.flux_defs.specs.Present.{Present}
use Rattle.flux_defs.specs.Closed.{no_bars}
use Rattle.flux_defs.specs.Available.{IsAvailable}
use Rattle.flux_defs.specs.Asks.{window_of}
use Rattle.flux_defs.specs.Scheduler.{Setting, present_of}
use Rattle.flux_defs.specs.Histories.{state_at}
use Rattle.flux_defs.specs.declared.verdicts.Verdict.{Verdict}
use Rattle.flux_defs.specs.declared.verdicts.Verdict.TheVariants.{Found, NoFit}

-- a command, how many entries of the journal were searched, and what was found there
pub record Candidate : Type 0 where
  pub command : Command
  pub place : ℕ
  pub verdict : Verdict

-- entry `at` freed claims; came too late for the start; or took what the claim with this index needs
pub data Cause : Type 0 where
  Freed : (at : ℕ) → Cause
  Late : (at : ℕ) → Cause
  Taken : (at claim : ℕ) → Cause

-- entry `at` of the history
abbrev pub HasEntry : List Entry → ℕ → Entry → Type 0
HasEntry history at e = slice_get history at ≡ Some e

-- entry `at` is an accepted cancel
abbrev pub Frees : List Entry → ℕ → Type 0
Frees history at = (e : Entry) × HasEntry history at e × (e.reply ≡ reply.Cancelled)

-- the command is an allocate
abbrev pub IsAllocate : Command → Type 0
IsAllocate (command.Allocate id ask) = Unit {0}
IsAllocate c = ⊥

-- the verdict was for an earlier moment: nothing fitted, or its start is past
abbrev pub IsPastFor : Verdict → ℕ → Type 0
IsPastFor (Found start claims) m = start < m
IsPastFor NoFit m = Unit {0}
IsPastFor v m = ⊥

-- entry `at` moved time on, and the candidate is an allocate, or found nothing, or its start is past
abbrev pub Delays : Candidate → List Entry → ℕ → Type 0
Delays c history at =
    (e : Entry) × (m : ℕ) × HasEntry history at e × (e.reply ≡ reply.Now m) × ((state_at history at).moment < m)
    × (IsAllocate c.command ⊎ IsPastFor c.verdict m)

-- a claim in the way of this one: on its vertex, a hold above it, or below it where this one is a hold
abbrev pub conflicts : List Vertex → Claim → Claim → Bool
conflicts vertices (Hold v) other = is_on_or_below vertices v other || holds_over vertices v other
conflicts vertices (Pass v) other = (vertex_of other == v) || holds_over vertices v other
conflicts vertices (Take v q) other = (vertex_of other == v) || holds_over vertices v other

-- the entry accepted the job
abbrev pub HasAccepted : Entry → Job → Type 0
HasAccepted e job = (e.reply ≡ reply.Allocated job) ⊎ (e.reply ≡ reply.Reserved job)

-- entry `at` accepted a job that overlaps the window and has a claim in the way
abbrev pub Blocks : List Vertex → Window → Claim → List Entry → ℕ → Type 0
Blocks vertices w claim history at =
    (e : Entry) × (job : Job) × HasEntry history at e × HasAccepted e job × (job.start < w.to) × (w.from < job.end)
    × IsTrue (list_any (conflicts vertices claim) job.claims)

-- P holds at `at`, which is at the place or later, and at none from the place on before that
pub record IsFirstFrom (P : ℕ → Type 0) (place at : ℕ) : Type 0 where
  pub after : place ≤ at
  pub there : P at
  pub before : (i : ℕ) → place ≤ i → i < at → P i → ⊥

-- P holds at none from the place on
abbrev pub NoneFrom : (ℕ → Type 0) → ℕ → Type 0
NoneFrom P place = (i : ℕ) → place ≤ i → P i → ⊥

-- the claim with this index isn't available over the window to an ask that bars nothing, and each before it is
pub record IsFirstTaken (vertices : List Vertex) (present : Present) (w : Window)
    (claims : List Claim) (index : ℕ) (claim : Claim) : Type 0 where
  pub there : slice_get claims index ≡ Some claim
  pub taken : IsAvailable (no_bars vertices present) w claim → ⊥
  pub before : All (IsAvailable (no_bars vertices present) w) (take index claims)

-- the claims that were found over the window aren't all available any more: the first that isn't, and the first entry
-- that stands in its way
abbrev pub IsTakenBy : Setting → List Entry → ℕ → Window → List Claim → ℕ → ℕ → Type 0
IsTakenBy g history place w claims at index =
    (claim : Claim) × IsFirstTaken g.graph.vertices (present_of (state_at history (length history))) w claims index
    claim
    × IsFirstFrom (Blocks g.graph.vertices w claim history) place at

-- what was taken of a candidate: its ask and its verdict say which claims are needed, and when
abbrev pub IsTakenFor : Setting → List Entry → ℕ → Command → Verdict → ℕ → ℕ → Type 0
IsTakenFor g history place (command.Allocate id ask) (Found start claims) =
    IsTakenBy g history place (window_of g.horizon ask start) claims
IsTakenFor g history place (command.Reserve id ask) (Found start claims) =
    IsTakenBy g history place (window_of g.horizon ask start) claims
IsTakenFor g history place c v = λ at index. ⊥

-- only a start that was found, or that nothing fits, can be overtaken
abbrev pub CanBeOvertaken : Verdict → Type 0
CanBeOvertaken (Found start claims) = Unit {0}
CanBeOvertaken NoFit = Unit {0}
CanBeOvertaken v = ⊥

-- The candidate is overtaken in the history: the first of the three kinds that holds, in the order of the cases of
-- `Cause`, with the least entry.
abbrev pub IsOvertakenBy : Setting → List Entry → Candidate → Cause → Type 0
IsOvertakenBy g history c (Freed at) = IsFirstFrom (Frees history) c.place at
IsOvertakenBy g history c (Late at) = NoneFrom (Frees history) c.place × IsFirstFrom (Delays c history) c.place at
IsOvertakenBy g history c (Taken at index) =
    NoneFrom (Frees history) c.place × NoneFrom (Delays c history) c.place
    × IsTakenFor g history c.place c.command c.verdict at index

-- the candidate can be overtaken, and this is the cause
abbrev pub IsOvertaken : Setting → List Entry → Candidate → Cause → Type 0
IsOvertaken g history c cause = CanBeOvertaken c.verdict × IsOvertakenBy g history c cause
