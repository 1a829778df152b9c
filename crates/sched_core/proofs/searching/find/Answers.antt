use Rattle.std.proofs.Common.{sym, subst, IfOk}
use Rattle.flux_defs.specs.declared.journal.Command.{Command}
use Rattle.flux_defs.specs.Verdicts.{Finds}
use Rattle.sched_core.specs.Courses.{left_by, journal_in, setting_in}
use Rattle.std.proofs.Common.{◌+◌, ◌*◌}
use Rattle.std.specs.FinMap.{len}
use Rattle.flux_defs.specs.Digits.{dig}
use Rattle.book_state.specs.Books.{rows_of, moment_of, IsTotalKept, cost_of}
use Rattle.sched_core.specs.Courses.{vertices_at}
use Rattle.sched_core.specs.SearchCosts.{CommandTakes, last_in, last_of}
use Rattle.sched_core.proofs.searching.find.Goals as goal

pub returns-in-Allocate-clause-found : goal.returns-in-Allocate-clause-found
returns-in-Allocate-clause-found g c =
    let site = c.args.site.now in
    let kept = c.args.kept.now in
    subst (λ (x : Command). IfOk c.job_verdict.result (Finds (setting_in site kept) (left_by (journal_in kept)) x))
    (sym c.in-Allocate.is) c.job_verdict.ensures.found

pub returns-in-Reserve-clause-found : goal.returns-in-Reserve-clause-found
returns-in-Reserve-clause-found g c =
    let site = c.args.site.now in
    let kept = c.args.kept.now in
    subst (λ (x : Command). IfOk c.job_verdict-in-Reserve.result
    (Finds (setting_in site kept) (left_by (journal_in kept)) x)) (sym c.in-Reserve.is)
    c.job_verdict-in-Reserve.ensures.found

pub returns-in-Satisfy-clause-found : goal.returns-in-Satisfy-clause-found
returns-in-Satisfy-clause-found g c =
    let site = c.args.site.now in
    let kept = c.args.kept.now in
    subst (λ (x : Command). Finds (setting_in site kept) (left_by (journal_in kept)) x c.satisfy_verdict.result)
    (sym c.in-Satisfy.is) (c.satisfy_verdict.ensures.found kept (left_by (journal_in kept)))

pub returns-in-Allocate-clause-work : goal.returns-in-Allocate-clause-work
returns-in-Allocate-clause-work g c = λ present stands.
    let site = c.args.site.now in
    let book = c.args.kept.now.book in
    subst (λ (x : Command). CommandTakes (vertices_at site) present (IsTotalKept book) (cost_of book) site.horizon
    (moment_of book) (16 * dig (len (rows_of book) + 2)) x (last_in site.horizon c.job_verdict.result) c.args.steps.now
    c.job_verdict.new.steps) (sym c.in-Allocate.is) (c.job_verdict.ensures.work present stands)

pub returns-in-Reserve-clause-work : goal.returns-in-Reserve-clause-work
returns-in-Reserve-clause-work g c = λ present stands.
    let site = c.args.site.now in
    let book = c.args.kept.now.book in
    subst (λ (x : Command). CommandTakes (vertices_at site) present (IsTotalKept book) (cost_of book) site.horizon
    (moment_of book) (16 * dig (len (rows_of book) + 2)) x (last_in site.horizon c.job_verdict-in-Reserve.result)
    c.args.steps.now
    c.job_verdict-in-Reserve.new.steps) (sym c.in-Reserve.is) (c.job_verdict-in-Reserve.ensures.work present stands)

pub returns-in-Satisfy-clause-work : goal.returns-in-Satisfy-clause-work
returns-in-Satisfy-clause-work g c = λ present stands.
    let site = c.args.site.now in
    let book = c.args.kept.now.book in
    subst (λ (x : Command). CommandTakes (vertices_at site) present (IsTotalKept book) (cost_of book) site.horizon
    (moment_of book) (16 * dig (len (rows_of book) + 2)) x (last_of site.horizon c.satisfy_verdict.result)
    c.args.steps.now
    c.satisfy_verdict.new.steps) (sym c.in-Satisfy.is) c.satisfy_verdict.ensures.work
