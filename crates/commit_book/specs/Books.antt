-- What a book shows.
use Rattle.std.specs.Prelude.{◌≡◌, ℕ, ◌<◌, List, [], ◌∷◌, length, Option}
use mathlib.Core.List.{IsPrefix}
use Rattle.atomic_table.specs.declared.shared.Seat.{Seat}
use Rattle.flux_defs.specs.declared.journal.Command.{Command}
use Rattle.flux_defs.specs.declared.journal.Entry.{Entry}
use Rattle.flux_defs.specs.Placed.{IsPlaced}
use Rattle.flux_defs.specs.Scheduler.{Setting}
use Rattle.overtaken_check.specs.declared.causes.Cause.{Cause}
use Rattle.overtaken_check.specs.declared.causes.Cause.TheVariants as cause
use Rattle.sched_core.specs.Answered.{IsDecided}
use Rattle.sched_core.specs.Candidates.{IsCommitted}
use Rattle.sched_core.specs.Courses.{Course}
use Rattle.sched_core.specs.Searched.{Searched}
use Rattle.sched_core.specs.declared.candidates.Commit.{Commit}
use Rattle.sched_core.specs.declared.candidates.Commit.TheVariants as commit
use Rattle.turn_table.specs.declared.view.View.{View}
use Rattle.turn_table.specs.Seats.{Rests}
use Rattle.turn_table.specs.Turns.{setting_of, Belongs}
use Rattle.commit_book.specs.declared.books.Book.{Book}
use Rattle.commit_book.specs.declared.held.Held.{Held}

-- a seat of some book
abbrev pub SeatAtBook : Type 0
SeatAtBook = Seat (Option Held) (View Entry Setting)

-- the setting of the book's core
abbrev pub book_setting : Book → Setting
book_setting b = setting_of (λ (h : Held). h.core.setting) b.turn

-- the seat is at this book, and has no turn
abbrev pub IsSeatOf : Book → SeatAtBook → Type 0
IsSeatOf b s = Belongs (λ (h : Held). h.core.setting) b.turn s × Rests s

-- a core of this setting with this journal
abbrev pub course : Setting → List Entry → Course
course g journal = record { setting = g; journal = journal }

-- A command was decided as a core of the setting decides it, on a journal that begins with what the seat had seen: `at`
-- is that journal's end. The seat has then seen the journal with the entry.
pub record IsDecidedAt
    (g : Setting) (client line : ℕ) (command : Command) (seen seen' : List Entry) (at : ℕ) : Type 0 where
  pub before : List Entry
  pub later : IsPrefix seen before
  pub place : at ≡ length before
  pub decided : IsDecided (course g before) (course g seen') client line command

-- A candidate was committed as a core of the setting commits it, on a journal that begins with what the seat had seen.
-- The seat has then seen the journal that the core has afterwards.
pub record IsCommittedAt
    (g : Setting) (client line : ℕ) (c : Searched) (seen seen' : List Entry) (answer : Commit) : Type 0 where
  pub before : List Entry
  pub later : IsPrefix seen before
  pub committed : IsCommitted (course g before) (course g seen') client line c answer

-- the position that a commit brings its seat
abbrev pub gained : Commit → List ℕ
gained (commit.Done at) = at ∷ []
gained (commit.Stale back why) = []

-- the entry that overtook a candidate
abbrev pub entry_in : Cause → ℕ
entry_in (cause.Freed at) = at
entry_in (cause.Late at) = at
entry_in (cause.Taken at claim) = at

-- the seat has seen the entry of the command, behind all that it had seen before; or the entry that overtook it
abbrev pub SeesAnswer : ℕ → ℕ → Command → List Entry → List Entry → Commit → Type 0
SeesAnswer client line command seen seen' (commit.Done at) = IsPlaced client line command at seen seen'
SeesAnswer client line command seen seen' (commit.Stale back why) = entry_in why < length seen'
