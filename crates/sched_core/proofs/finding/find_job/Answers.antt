use Rattle.std.proofs.Common.{◌∙◌}
use Rattle.std.proofs.lemmas.Result.{IfOk-weaker}
use Rattle.sched_core.specs.Courses.{left_by, setting_of}
use Rattle.sched_core.specs.Answered.{FindsAt}
use Rattle.sched_core.proofs.Searched.{test_no, job_at}
use Rattle.std.proofs.Common.{◌+◌, ◌*◌, arith}
use Rattle.std.specs.FinMap.{len}
use Rattle.flux_defs.specs.Digits.{dig}
use Rattle.book_state.specs.Books.{rows_of, moment_of, IsTotalKept, cost_of}
use Rattle.sched_core.specs.SearchCosts.{last_in, satisfy_most}
use Rattle.sched_core.proofs.SearchCounts.{search_none, search_later}
use Rattle.sched_core.proofs.finding.find_job.Goals as goal

pub returns-clause-found : goal.returns-clause-found
returns-clause-found g c =
    IfOk-weaker c.find_at.result _ _ (λ v found rules limit journal of.
    let set = setting_of c.args.graph.now.resources rules c.args.horizon limit in
    let s = left_by journal in
    job_at set s c.args.id c.args.ask.now (FindsAt c.args.starts set s c.args.ask.now)
    (test_no _ _ (c.is_used.ensures.answer journal of) c.if-is_used.false)
    (c.is_satisfiable.ensures.answer.0 c.if-not-is_satisfiable.false) c.now-moment.result (c.now-moment.ensures ∙
    of.moment)
    (c.counts.ensures.0 c.if-not-counts.false) v
    (found rules limit journal of (c.now-moment.ensures ∙ of.moment))) c.find_at.ensures.found

pub returns-then-is_used-clause-work : goal.returns-then-is_used-clause-work
returns-then-is_used-clause-work g c = λ present stands.
    let ask = c.args.ask.now in
    let vs = c.args.graph.now.resources.vertices in
    let book = c.args.book.now in
    let most = c.args.steps.now + 16 * dig (len (rows_of book) + 2) + satisfy_most vs ask in
    search_none vs present c.args.horizon (moment_of book) (IsTotalKept book) (cost_of book) c.args.starts ask
    c.args.horizon
    most c.is_used.new.steps (omega (arith, c.is_used.ensures.work))

pub returns-then-not-is_satisfiable-clause-work : goal.returns-then-not-is_satisfiable-clause-work
returns-then-not-is_satisfiable-clause-work g c = λ present stands.
    let ask = c.args.ask.now in
    let vs = c.args.graph.now.resources.vertices in
    let book = c.args.book.now in
    let most = c.args.steps.now + 16 * dig (len (rows_of book) + 2) + satisfy_most vs ask in
    search_none vs present c.args.horizon (moment_of book) (IsTotalKept book) (cost_of book) c.args.starts ask
    c.args.horizon
    most c.is_satisfiable.new.steps (omega (arith, c.is_used.ensures.work, c.is_satisfiable.ensures.work))

pub returns-then-not-counts-clause-work : goal.returns-then-not-counts-clause-work
returns-then-not-counts-clause-work g c = λ present stands.
    let ask = c.args.ask.now in
    let vs = c.args.graph.now.resources.vertices in
    let book = c.args.book.now in
    let most = c.args.steps.now + 16 * dig (len (rows_of book) + 2) + satisfy_most vs ask in
    search_none vs present c.args.horizon (moment_of book) (IsTotalKept book) (cost_of book) c.args.starts ask
    c.args.horizon
    most c.is_satisfiable.new.steps (omega (arith, c.is_used.ensures.work, c.is_satisfiable.ensures.work))

pub returns-clause-work : goal.returns-clause-work
returns-clause-work g c = λ present stands.
    let ask = c.args.ask.now in
    let vs = c.args.graph.now.resources.vertices in
    let book = c.args.book.now in
    let most = c.args.steps.now + 16 * dig (len (rows_of book) + 2) + satisfy_most vs ask in
    search_later vs present c.args.horizon (moment_of book) (IsTotalKept book) (cost_of book) c.args.starts ask
    (last_in c.args.horizon c.find_at.result) most c.is_satisfiable.new.steps c.find_at.new.steps
    (omega (arith, c.is_used.ensures.work, c.is_satisfiable.ensures.work))
    (rw c.now-moment.ensures at (c.find_at.ensures.work present stands))
