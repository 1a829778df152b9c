-- What is told of a candidate before it is committed.
use Rattle.std.specs.Prelude.{ℕ, List}
use Rattle.flux_defs.specs.declared.journal.Command.{Command}
use Rattle.flux_defs.specs.declared.journal.Entry.{Entry}
use Rattle.flux_defs.specs.declared.verdicts.Verdict.{Verdict}
use Rattle.flux_defs.specs.Scheduler.{Setting, Replies}
use Rattle.flux_defs.specs.Overtaken.{IsOvertaken}
use Rattle.commit_laws.specs.CommitLaws.{StillStands}
use Rattle.overtaken_check.specs.Scans.{cause_of, candidate_of}
use Rattle.sched_core.specs.declared.committing.Judged.{Judged}
use Rattle.sched_core.specs.declared.committing.Judged.TheVariants as judged
use Rattle.sched_core.specs.Courses.{left_by}

-- the scheduler's reply now where nothing overtook the candidate, or the cause by which it is overtaken
abbrev pub IsJudgedOf : Setting → List Entry → Command → ℕ → Verdict → Judged → Type 0
IsJudgedOf g journal command place verdict (judged.Fresh reply) =
    StillStands g journal (candidate_of command place verdict) × Replies g (left_by journal) command reply
IsJudgedOf g journal command place verdict (judged.Overtaken cause) =
    IsOvertaken g journal (candidate_of command place verdict) (cause_of cause)
