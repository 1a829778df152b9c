use Rattle.std.proofs.Common.{subst}
use Rattle.std.proofs.lemmas.Result.{IfOk-weaker}
use Rattle.flux_defs.specs.Scheduler.{Setting}
use Rattle.flux_defs.specs.Verdicts.{FindsJob}
use Rattle.resource_graph.specs.NamedGraph.{NamedGraph}
use Rattle.book_state.specs.Books.{rules_of}
use Rattle.sched_core.specs.Courses.{left_by, journal_in, setting_in, setting_of}
use Rattle.sched_core.specs.Answered.{FindsAt}
use Rattle.sched_core.proofs.Committed.{finds_command}
use Rattle.std.proofs.Common.{◌+◌, ◌*◌}
use Rattle.std.specs.FinMap.{len}
use Rattle.flux_defs.specs.Digits.{dig}
use Rattle.book_state.specs.Books.{rows_of, moment_of}
use Rattle.sched_core.specs.SearchCosts.{BookTakes, satisfy_most}
use Rattle.sched_core.proofs.searching.job_verdict.Goals as goal

pub returns-clause-found : goal.returns-clause-found
returns-clause-found g c =
    let site = c.args.site.now in
    let kept = c.args.kept.now in
    let s = left_by (journal_in kept) in
    let id = c.args.id in
    let ask = c.args.ask.now in
    let set : NamedGraph → Setting = λ n. setting_of n.resources (rules_of kept.book) site.horizon site.claim_limit in
    IfOk-weaker c.find_job.result _ _ (λ v found.
    finds_command (setting_in site kept) s id ask c.args.starts v
    (subst (λ (n : NamedGraph). FindsJob (set n) s id ask (FindsAt c.args.starts (set n) s ask) v) c.deref.ensures
    (found (rules_of kept.book) site.claim_limit (journal_in kept) c.requires.core.book-of))) c.find_job.ensures.found

pub returns-clause-work : goal.returns-clause-work
returns-clause-work g c =
    let book = c.args.kept.now.book in
    let ask = c.args.ask.now in
    subst (λ (n : NamedGraph). BookTakes n.resources c.args.site.now.horizon book (moment_of book) c.args.starts ask
    c.find_job.result
    (c.args.steps.now + 16 * dig (len (rows_of book) + 2) + satisfy_most n.resources.vertices ask) c.find_job.new.steps)
    c.deref.ensures c.find_job.ensures.work
