-- What a machine keeps, and what it is seen as.
use Rattle.std.specs.Prelude.{◌≡◌, ℕ, Bool, true, false, List, map, slice_get, Some}
use Rattle.std.specs.List.{AllByRecursion}
use Rattle.flux_defs.specs.declared.events.Event.{Event}
use Rattle.flux_defs.specs.declared.vertices.Vertex.{Vertex}
use Rattle.flux_defs.specs.declared.journal.Entry.{Entry}
use Rattle.flux_defs.specs.declared.journal.Line.{Line}
use Rattle.flux_defs.specs.declared.journal.Script.{Script}
use Rattle.flux_defs.specs.Scheduler.{Setting, IsProper}
use Rattle.flux_defs.specs.Scripts.{HasLines}
use Rattle.flux_defs.specs.Verdicts.{IsSearchable}
use Rattle.flux_defs.specs.Overtaken.{Cause, IsOvertaken}
use Rattle.flux_defs.specs.Interleaving as over
use Rattle.flux_defs.specs.Interleaving.{Machine, IsOpen, Happens, IsOneHistory}
use Rattle.commit_laws.specs.CommitLaws.{StillStands}
use Rattle.sched_core.specs.Courses.{Course}
use Rattle.sched_core.specs.Answered.{IsDecided}
use Rattle.sched_core.specs.Searched as core
use Rattle.sched_core.specs.Searched.{candidate_in}
use Rattle.interleave_law.specs.declared.flights.Flight.{Flight}
use Rattle.interleave_law.specs.declared.flights.Flight.TheVariants.{Idle, Looked, Searched}
use Rattle.interleave_law.specs.declared.flights.Progress.{Progress}

-- a setting that never changes, a script, and the machine
pub record Interleaved : Type 0 where
  pub setting : Setting
  pub script : Script
  pub machine : Machine

-- the flight in the definition's words: a snapshot as its history
abbrev pub flight_of : Flight → over.Flight
flight_of Idle = over.Idle
flight_of (Looked snap) = over.Looked snap.journal
flight_of (Searched c) = over.Searched c.snap.journal c.verdict

abbrev pub progress_of : Progress → over.Progress
progress_of p = record { done = p.done; flight = flight_of p.flight }

-- so many lines are done, and nothing of the next one
abbrev pub idle_progress : ℕ → Progress
idle_progress done = record { done = done; flight = Idle }

-- the machine with this history, in which the clients have come so far
abbrev pub machine_of : List Entry → List Progress → Machine
machine_of history clients = record { history = history; clients = map progress_of clients }

-- what a machine that keeps these is seen as
abbrev pub seen_as : Course → Script → List Progress → Interleaved
seen_as course script clients =
    record { setting = course.setting; script = script; machine = machine_of course.journal clients }

-- each command of the script is proper for the graph
abbrev pub HasProperLines : List Vertex → Script → Type 0
HasProperLines vertices script =
    AllByRecursion (λ lines. AllByRecursion (λ l. IsProper vertices l.command) lines) script.lines

-- client c has come so far, and this is its next line
pub record IsNext (script : Script) (clients : List Progress) (c : ℕ) (p : Progress) (l : Line) : Type 0 where
  pub progress : slice_get clients c ≡ Some p
  pub lines : List Line
  pub lines-are : HasLines script c lines
  pub next : slice_get lines p.done ≡ Some l

-- what was looked at or searched has the scheduler's setting, and the line is the one that was searched for
abbrev pub IsFlightFor : Course → Line → Flight → Type 0
IsFlightFor course l Idle = Unit {0}
IsFlightFor course l (Looked snap) = (snap.setting ≡ course.setting) × IsSearchable l.command
IsFlightFor course l (Searched c) = (c.snap.setting ≡ course.setting) × (c.command ≡ l.command)

-- The commands are proper, each flight is one for its client's next line, and the history is one.
pub record IsRunning (course : Course) (script : Script) (clients : List Progress) : Type 0 where
  pub proper : HasProperLines course.setting.graph.vertices script
  pub flights : (c : ℕ) (p : Progress) (l : Line) → IsNext script clients c p l → IsFlightFor course l p.flight
  pub one : IsOneHistory course.setting script (machine_of course.journal clients)

-- What comes of an event: `true` where it is open to its client, and then it happens; `false` where it isn't, and then
-- nothing changed.
abbrev pub IsStepOf : Interleaved → Event → Bool → Interleaved → Type 0
IsStepOf old event true new =
    IsOpen old.script old.machine event × Happens old.setting old.script old.machine event new.machine
    × (new.setting ≡ old.setting) × (new.script ≡ old.script)
IsStepOf old event false new = (IsOpen old.script old.machine event → ⊥) × (new ≡ old)

-- What came of a commit: `true` where nothing overtook the candidate, and its entry was appended; `false` where
-- something did, and then nothing changed.
abbrev pub IsTried : Course → Course → ℕ → ℕ → core.Searched → Bool → Type 0
IsTried old new client line c true =
    StillStands old.setting old.journal (candidate_in c) × IsDecided old new client line c.command
IsTried old new client line c false =
    (new ≡ old) × ((cause : Cause) × IsOvertaken old.setting old.journal (candidate_in c) cause)
