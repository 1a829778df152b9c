use Rattle.std.proofs.Common.{Option, MatchOption, sym, ◌∙◌, subst}
use Rattle.job_table.specs.declared.tables.Row.{Row}
use Rattle.sched_core.specs.Courses.{left_by, IsRowOf, IsNew}
use Rattle.sched_core.proofs.Searched.{has_row}
use Rattle.sched_core.proofs.finding.is_used.Goals as goal

pub returns-clause-answer : goal.returns-clause-answer
returns-clause-answer g c = λ journal of.
    let s = left_by journal in
    let tells = has_row journal s c.args.id c.find.result (subst (λ (r : Option Row). MatchOption r
    (IsNew s c.args.id) (IsRowOf journal s c.args.id)) (sym c.find.ensures.row) (of.table c.args.id)) in
    (λ h. tells.0 (sym c.is_some.ensures ∙ h), λ used. c.is_some.ensures ∙ tells.1 used)
