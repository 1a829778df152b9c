-- What a candidate is seen as, and what it keeps.
use Rattle.std.specs.Prelude.{◌≡◌, ℕ, length}
use Rattle.flux_defs.specs.declared.journal.Command.{Command}
use Rattle.flux_defs.specs.declared.verdicts.Verdict.{Verdict}
use Rattle.flux_defs.specs.Scheduler.{IsProper}
use Rattle.flux_defs.specs.Verdicts.{Finds}
use Rattle.flux_defs.specs.Overtaken.{Candidate}
use Rattle.sched_core.specs.Courses.{Course, state_of}

-- a command, the state that was searched for it, how many entries that one had, and the verdict
pub record Searched : Type 0 where
  pub command : Command
  pub snap : Course
  pub place : ℕ
  pub verdict : Verdict

-- the candidate that it is
abbrev pub candidate_in : Searched → Candidate
candidate_in c = record { command = c.command; place = c.place; verdict = c.verdict }

-- the place is the length of the journal that was searched, the verdict is what a search finds there, and the command
-- is proper
pub record IsSearched (command : Command) (snap : Course) (place : ℕ) (verdict : Verdict) : Type 0 where
  pub place-is : place ≡ length snap.journal
  pub finds : Finds snap.setting (state_of snap) command verdict
  pub proper : IsProper snap.setting.graph.vertices command
