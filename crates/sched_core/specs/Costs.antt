-- How many steps a commit takes.
use Rattle.std.specs.Prelude.{ℕ, ◌+◌, ◌-◌, ◌*◌, ◌≤◌, length}
use Rattle.flux_defs.specs.declared.journal.Reply.{Reply}
use Rattle.flux_defs.specs.declared.journal.Reply.TheVariants as reply
use Rattle.flux_defs.specs.Digits.{dig}
use Rattle.overtaken_check.specs.Costs.{claims_found}
use Rattle.sched_core.specs.declared.committing.Judged.{Judged}
use Rattle.sched_core.specs.declared.committing.Judged.TheVariants as judged
use Rattle.sched_core.specs.Courses.{Course, state_of}
use Rattle.sched_core.specs.Searched.{Searched}

-- the reply cancels no job, and a job that it accepts has at most so many claims
abbrev pub AddsAtMost : ℕ → Reply → Type 0
AddsAtMost most (reply.Allocated job) = length job.claims ≤ most
AddsAtMost most (reply.Reserved job) = length job.claims ≤ most
AddsAtMost most reply.Cancelled = ⊥
AddsAtMost most r = Unit {0}

-- the same of the reply that is told of a candidate, if one is
abbrev pub IsToldAtMost : ℕ → Judged → Type 0
IsToldAtMost most (judged.Fresh reply) = AddsAtMost most reply
IsToldAtMost most (judged.Overtaken cause) = Unit {0}

-- the binary digits of what the trees of a course hold once it has so many claims more: all claims twice, and the
-- entries
abbrev pub digits_of : Course → ℕ → ℕ
digits_of course claims = dig (2 * ((state_of course).claim_count + claims) + length course.journal + 4)

-- what is told of a candidate: two looks at the view for each claim, three at each entry since the search, and one at
-- the ids
abbrev pub judge_most : Course → Searched → ℕ
judge_most course c =
    (1024 * length (claims_found c.verdict) + 6 * (length course.journal - c.place) + 16) * digits_of course
    (length (claims_found c.verdict))

-- one entry more, with a job of at most so many claims
abbrev pub append_most : Course → ℕ → ℕ
append_most course claims =
    8192 * (claims + 1) * (1 + length course.setting.rules) * digits_of course claims + 2 * digits_of course claims

-- A commit: by the claims that were found, the filter rules and the entries since the search. The graph's size isn't in
-- it.
abbrev pub commit_most : Course → Searched → ℕ
commit_most course c =
    16384 * (length (claims_found c.verdict) + 1) * (1 + length course.setting.rules) * digits_of course
    (length (claims_found c.verdict))
    + 16 * (length course.journal - c.place) * digits_of course (length (claims_found c.verdict))
