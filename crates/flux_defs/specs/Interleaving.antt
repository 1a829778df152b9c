-- The interleaving machine: clients look at one history, search what they looked at and commit what they found, in any
-- order of these events.
use Rattle.std.specs.Prelude.{◌≡◌, ℕ, ◌+◌, ◌⊎◌, List, [], ◌∷◌, ◌++◌, length, map, take, slice_get, slice_set, Some}
use mathlib.Core.List.{IsPrefix}
use Rattle.flux_defs.specs.declared.events.Event.{Event}
use Rattle.flux_defs.specs.declared.events.Event.TheVariants.{Look, Search, Commit, Decide}
use Rattle.flux_defs.specs.declared.journal.Entry.{Entry}
use Rattle.flux_defs.specs.declared.journal.Line.{Line}
use Rattle.flux_defs.specs.declared.journal.Reply.{Reply}
use Rattle.flux_defs.specs.declared.journal.Script.{Script}
use Rattle.flux_defs.specs.declared.verdicts.Verdict.{Verdict}
use Rattle.flux_defs.specs.Scheduler.{Setting, first_state, Replies}
use Rattle.flux_defs.specs.Histories.{state_after, IsLegal, of_client}
use Rattle.flux_defs.specs.Scripts.{HasLines, line_of, client_line}
use Rattle.flux_defs.specs.Verdicts.{Finds, IsSearchable}
use Rattle.flux_defs.specs.Overtaken.{Candidate, Cause, IsOvertaken}

-- how far a client has come with its next line: not at all; it looked at a history; or it searched that history, with
-- this verdict
pub data Flight : Type 0 where
  Idle : Flight
  Looked : (seen : List Entry) → Flight
  Searched : (seen : List Entry) (verdict : Verdict) → Flight

-- how many of its lines a client has done, and how far it has come with the next one
pub record Progress : Type 0 where
  pub done : ℕ
  pub flight : Flight

-- one history, and each client's progress
pub record Machine : Type 0 where
  pub history : List Entry
  pub clients : List Progress

-- the client has done nothing
abbrev pub at_rest : Progress
at_rest = record { done = 0; flight = Idle }

-- no entries, and no client has done anything
abbrev pub first_machine : Script → Machine
first_machine script = record { history = []; clients = map (λ lines. at_rest) script.lines }

-- client c has come so far, and this is its next line
pub record HasNext (script : Script) (m : Machine) (c : ℕ) (p : Progress) (l : Line) : Type 0 where
  pub progress : slice_get m.clients c ≡ Some p
  pub lines : List Line
  pub lines-are : HasLines script c lines
  pub next : slice_get lines p.done ≡ Some l

-- the machine in which client c has come as far as this
abbrev pub with_flight : Machine → ℕ → Progress → Flight → Machine
with_flight m c p flight = record m { clients = slice_set m.clients c (record p { flight = flight }) }

-- client c's next line was answered: one entry more, with the scheduler's reply in the state that the history leaves,
-- and the client is idle with one line more done
pub record IsAnswered (g : Setting) (old : Machine) (c : ℕ) (p : Progress) (l : Line) (new : Machine) : Type 0 where
  pub reply : Reply
  pub replies : Replies g (state_after first_state old.history) l.command reply
  pub history : new.history
      ≡ old.history ++ record { client = c; line = l.line; command = l.command; reply = reply } ∷ []
  pub clients : new.clients ≡ slice_set old.clients c (record { done = p.done + 1; flight = Idle })

-- what was found of the line's command on the history that was searched
abbrev pub candidate_on : List Entry → Line → Verdict → Candidate
candidate_on seen l verdict = record { command = l.command; place = length seen; verdict = verdict }

-- an idle client looks at the present history, if its next line is searched for
abbrev pub Looks : Script → Machine → ℕ → Machine → Type 0
Looks script old c new =
    (p : Progress) × (l : Line) × HasNext script old c p l × (p.flight ≡ Idle) × IsSearchable l.command
    × (new ≡ with_flight old c p (Looked old.history))

-- a client that looked gets the verdict on the history that it looked at
abbrev pub Searches : Setting → Script → Machine → ℕ → Machine → Type 0
Searches g script old c new =
    (p : Progress) × (l : Line) × HasNext script old c p l × (seen : List Entry) × (p.flight ≡ Looked seen)
    × (verdict : Verdict) × Finds g (state_after first_state seen) l.command verdict
    × (new ≡ with_flight old c p (Searched seen verdict))

-- a client that searched is overtaken, and idle again with its line; or, where nothing overtook it, its line is
-- answered
abbrev pub Commits : Setting → Script → Machine → ℕ → Machine → Type 0
Commits g script old c new =
    (p : Progress) × (l : Line) × HasNext script old c p l
    × (seen : List Entry) × (verdict : Verdict) × (p.flight ≡ Searched seen verdict)
    × (((cause : Cause) × IsOvertaken g old.history (candidate_on seen l verdict) cause
    × (new ≡ with_flight old c p Idle))
    ⊎ (((cause : Cause) → IsOvertaken g old.history (candidate_on seen l verdict) cause → ⊥)
    × IsAnswered g old c p l new))

-- an idle client has its next line answered at once
abbrev pub Decides : Setting → Script → Machine → ℕ → Machine → Type 0
Decides g script old c new =
    (p : Progress) × (l : Line) × HasNext script old c p l × (p.flight ≡ Idle) × IsAnswered g old c p l new

-- the event happens to the machine
abbrev pub Happens : Setting → Script → Machine → Event → Machine → Type 0
Happens g script old (Look c) new = Looks script old c new
Happens g script old (Search c) new = Searches g script old c new
Happens g script old (Commit c) new = Commits g script old c new
Happens g script old (Decide c) new = Decides g script old c new

-- the event is one for its client as far as it has come
abbrev pub IsOpen : Script → Machine → Event → Type 0
IsOpen script m (Look c) =
    (p : Progress) × (l : Line) × HasNext script m c p l × (p.flight ≡ Idle) × IsSearchable l.command
IsOpen script m (Search c) =
    (p : Progress) × (l : Line) × HasNext script m c p l × (seen : List Entry) × (p.flight ≡ Looked seen)
IsOpen script m (Commit c) =
    (p : Progress) × (l : Line) × HasNext script m c p l
    × (seen : List Entry) × (verdict : Verdict) × (p.flight ≡ Searched seen verdict)
IsOpen script m (Decide c) = (p : Progress) × (l : Line) × HasNext script m c p l × (p.flight ≡ Idle)

-- an event happens where it is open, and changes nothing elsewhere
abbrev pub Takes : Setting → Script → Machine → Event → Machine → Type 0
Takes g script old event new =
    (IsOpen script old event × Happens g script old event new) ⊎ ((IsOpen script old event → ⊥) × (new ≡ old))

-- a list of events, one after another
abbrev pub Runs : Setting → Script → Machine → List Event → Machine → Type 0
Runs g script old [] new = new ≡ old
Runs g script old (event ∷ events) new = (mid : Machine) × Takes g script old event mid × Runs g script mid events new

-- the client looked at this history, or searched it
abbrev pub HasLookedAt : Flight → List Entry → Type 0
HasLookedAt Idle seen = ⊥
HasLookedAt (Looked looked) seen = looked ≡ seen
HasLookedAt (Searched looked verdict) seen = looked ≡ seen

-- The history is legal; every history that a client looked at or searched is a beginning of it; and each client's part
-- of it answers exactly the lines that the client has done, in their order.
pub record IsOneHistory (g : Setting) (script : Script) (m : Machine) : Type 0 where
  pub legal : IsLegal g m.history
  pub begins : (c : ℕ) (p : Progress) (seen : List Entry) → slice_get m.clients c ≡ Some p → HasLookedAt p.flight seen →
      IsPrefix seen m.history
  pub parts : (c : ℕ) (p : Progress) (lines : List Line) → slice_get m.clients c ≡ Some p → HasLines script c lines →
      map line_of (of_client c m.history) ≡ map (client_line c) (take p.done lines)
