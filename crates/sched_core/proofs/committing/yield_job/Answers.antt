use Rattle.std.proofs.Common.{ℕ, inl, inr, refl, sym, ◌∙◌, subst, true≢false, Contains}
use Rattle.std.specs.Arc.{arc_value}
use Rattle.flux_defs.specs.Histories.{state_at}
use Rattle.book_state.specs.Books.{rules_of}
use Rattle.sched_core.specs.Courses.{left_by, journal_in, setting_in}
use Rattle.sched_core.specs.Answered.{none_at, IsOfJob}
use Rattle.sched_core.proofs.Decided.{of_job, as_given}
use Rattle.sched_core.proofs.Committed.{used_now, known_used, answers_yield}
use Rattle.sched_core.proofs.committing.yield_job.Goals as goal

pub give-requires : goal.give-requires
give-requires g c =
    let site = c.args.site.now in
    let kept = c.args.kept.now in
    subst (λ (h : ℕ). IsOfJob h c.args.ask.now c.args.verdict) (sym c.reached.ensures.horizon)
    (of_job (setting_in site kept) (state_at (journal_in kept) c.args.place) c.args.id c.args.ask.now c.args.starts
    c.args.verdict c.requires.found)

pub returns-then-is_used-clause-answer : goal.returns-then-is_used-clause-answer
returns-then-is_used-clause-answer g c = λ at.
    inl ((c.is_used.ensures.answer (journal_in c.args.kept.now) c.requires.core.book-of).0 c.if-is_used.true, refl)

pub returns-clause-answer : goal.returns-clause-answer
returns-clause-answer g c = λ at.
    let site = c.args.site.now in
    let kept = c.args.kept.now in
    let core = c.requires.core in
    let j = journal_in kept in
    let s = left_by j in
    let set = setting_in site kept in
    let graph = (arc_value site.graph).resources in
    let rules = rules_of kept.book in
    let v = c.args.verdict in
    let id = c.args.id in
    let ask = c.args.ask.now in
    let none = none_at c.args.starts in
    let tells = c.is_used.ensures.answer j core.book-of in
    let unused : Contains s.used id → ⊥ = λ h. true≢false (sym (tells.1 h) ∙ c.if-is_used.false) in
    let given = c.give.ensures.answer graph rules s (sym (c.reached.ensures.moment ∙ at))
    (sym c.reached.ensures.claim_count) in
    let answers = as_given graph rules s id ask v c.give.result c.reached.result.horizon site.horizon
    c.reached.result.claim_limit site.claim_limit c.none_at.result none c.reached.ensures.horizon
    c.reached.ensures.claim_limit c.none_at.ensures.answer given in
    inr (
      unused,
      answers_yield set s id ask none v c.give.result
          (λ k. unused (used_now j c.args.place id
          (known_used set (state_at j c.args.place) id ask c.args.starts v c.requires.found k))) answers,
    )
