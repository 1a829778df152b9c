-- Candidates: what a search of a state found, and what comes of committing it in a later one.
use Rattle.std.specs.Prelude.{◌≡◌, ℕ, List, ◌++◌, length}
use Rattle.flux_defs.specs.declared.journal.Entry.{Entry}
use Rattle.flux_defs.specs.Overtaken.{IsOvertaken}
use Rattle.commit_laws.specs.CommitLaws.{StillStands}
use Rattle.overtaken_check.specs.Scans.{cause_of}
use Rattle.sched_core.specs.Courses.{Course}
use Rattle.sched_core.specs.Answered.{IsDecided}
use Rattle.sched_core.specs.declared.candidates.Commit.{Commit}
use Rattle.sched_core.specs.declared.candidates.Commit.TheVariants as commit
use Rattle.sched_core.specs.declared.committing.Judged.{Judged}
use Rattle.sched_core.specs.Judged.{IsJudgedOf}
use Rattle.sched_core.specs.Searched.{Searched, candidate_in}

-- the state that was searched has the setting of the course, and its journal is a beginning of the course's
pub record IsFor (course : Course) (c : Searched) : Type 0 where
  pub setting : c.snap.setting ≡ course.setting
  pub later : List Entry
  pub begins : course.journal ≡ c.snap.journal ++ later

-- the same of a course and a candidate
abbrev pub IsJudged : Course → Searched → Judged → Type 0
IsJudged course c judged = IsJudgedOf course.setting course.journal c.command c.place c.verdict judged

-- `Done` where nothing overtook the candidate: one entry more, with the scheduler's reply now. `Stale` with the cause
-- by which it is overtaken: the candidate comes back, and nothing changed.
abbrev pub IsCommitted : Course → Course → ℕ → ℕ → Searched → Commit → Type 0
IsCommitted old new client line c (commit.Done at) =
    StillStands old.setting old.journal (candidate_in c) × (at ≡ length old.journal)
    × IsDecided old new client line c.command
IsCommitted old new client line c (commit.Stale back why) =
    (new ≡ old) × (back ≡ c) × IsOvertaken old.setting old.journal (candidate_in c) (cause_of why)
