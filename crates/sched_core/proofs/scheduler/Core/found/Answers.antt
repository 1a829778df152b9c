use Rattle.std.proofs.Common.{IfOk, ◌≡◌, sym, ◌∙◌, ap, subst}
use Rattle.flux_defs.specs.Verdicts.{Finds}
use Rattle.sched_core.specs.declared.held.Keeping.{Keeping}
use Rattle.sched_core.specs.Courses.{Course, state_of, course_in, course_at, IsKeptAt}
use Rattle.sched_core.specs.SearchCosts.{CourseTakes, last_in}
use Rattle.sched_core.proofs.SearchCounts.{course_takes}
use Rattle.sched_core.proofs.scheduler.Core.found.Goals as goal

pub returns-in-Whole-clause-found : goal.returns-in-Whole-clause-found
returns-in-Whole-clause-found g c =
    let site = c.self.inside.site in
    let seen : course_in site c.in-Whole.kept ≡ c.args.self.now =
    ap (λ (k : Keeping). course_at site k) (sym c.in-Whole.is) ∙ c.self.view_is in
    subst (λ (x : Course). IfOk c.find.result (Finds x.setting (state_of x) c.args.command.now)) seen
    c.find.ensures.found

pub returns-in-Whole-clause-work : goal.returns-in-Whole-clause-work
returns-in-Whole-clause-work g c =
    let site = c.self.inside.site in
    let kept = c.in-Whole.kept in
    let seen : course_in site kept ≡ c.args.self.now =
    ap (λ (k : Keeping). course_at site k) (sym c.in-Whole.is) ∙ c.self.view_is in
    subst (λ (x : Course). CourseTakes x c.args.command.now (last_in x.setting.horizon c.find.result)
    c.args.steps.now c.find.new.steps) seen
    (course_takes site kept (subst (λ (k : Keeping). IsKeptAt site k) c.in-Whole.is c.self.invariant)
    c.args.command.now (last_in site.horizon c.find.result) c.args.steps.now c.find.new.steps c.find.ensures.work)
