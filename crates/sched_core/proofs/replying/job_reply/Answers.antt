use Rattle.std.proofs.Common.{ℕ, sym, ◌∙◌, subst}
use Rattle.std.specs.Arc.{arc_value}
use Rattle.book_state.specs.Books.{rules_of}
use Rattle.sched_core.specs.Courses.{left_by, journal_in, setting_in}
use Rattle.sched_core.specs.Answered.{none_at, IsOfJob}
use Rattle.sched_core.proofs.Committed.{finds_job}
use Rattle.sched_core.proofs.Decided.{decided, of_job, as_given}
use Rattle.sched_core.proofs.replying.job_reply.Goals as goal

pub give-requires : goal.give-requires
give-requires g c =
    let site = c.args.site.now in
    let kept = c.args.kept.now in
    let s = left_by (journal_in kept) in
    let v = c.in_ok-verdict.verdict in
    let id = c.args.id in
    let ask = c.args.ask.now in
    let finds = finds_job (setting_in site kept) s id ask c.args.starts v c.in_ok-verdict.ensures.found in
    subst (λ (h : ℕ). IsOfJob h ask v) (sym c.reached.ensures.horizon)
    (of_job (setting_in site kept) s id ask c.args.starts v finds)

pub returns : goal.returns
returns g c =
    let site = c.args.site.now in
    let kept = c.args.kept.now in
    let core = c.requires.core in
    let s = left_by (journal_in kept) in
    let graph = (arc_value site.graph).resources in
    let rules = rules_of kept.book in
    let v = c.in_ok-verdict.verdict in
    let id = c.args.id in
    let ask = c.args.ask.now in
    let none = none_at c.args.starts in
    let finds = finds_job (setting_in site kept) s id ask c.args.starts v c.in_ok-verdict.ensures.found in
    let moment = c.reached.ensures.moment ∙ c.now.ensures ∙ core.book-of.moment in
    let given = c.give.ensures.answer graph rules s (sym moment) (sym c.reached.ensures.claim_count) in
    let answers = as_given graph rules s id ask v c.give.result c.reached.result.horizon site.horizon
    c.reached.result.claim_limit site.claim_limit c.none_at.result none c.reached.ensures.horizon
    c.reached.ensures.claim_limit c.none_at.ensures.answer given in
    decided (setting_in site kept) s id ask c.args.starts v c.give.result finds answers
