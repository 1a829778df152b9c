use Rattle.std.proofs.Common.{Option, Some, None, MatchOption, sym, ◌∙◌, ap, subst, if◌then◌else◌}
use Rattle.job_table.specs.declared.tables.Row.{Row}
use Rattle.sched_core.specs.Courses.{left_by, IsRowOf, IsNew}
use Rattle.sched_core.proofs.JobLaws.{row_found}
use Rattle.sched_core.proofs.settling.live_job.Goals as goal

pub returns-in-None : goal.returns-in-None
returns-in-None g c =
    let s = left_by c.args.entries.now in
    let none = subst (λ (r : Option Row). MatchOption r (IsNew s c.args.id) (IsRowOf c.args.entries.now s c.args.id))
    (sym c.in-None.ensures.row) (c.requires.table c.args.id) in
    sym none.none

pub returns-then-row : goal.returns-then-row
returns-then-row g c =
    let s = left_by c.args.entries.now in
    let is = row_found c.args.entries.now s c.args.id _ c.in-Some.row
    (sym c.in-Some.ensures.row) (c.requires.table c.args.id) in
    c.job_at.ensures is.entry is.job is.there is.accepted
    ∙ sym (is.left ∙ ap (λ b. if b then Some is.job else None) c.if-row.true)
