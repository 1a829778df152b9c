use Rattle.std.proofs.Common.{List, sym, ◌∙◌, ap, subst}
use Rattle.flux_defs.specs.declared.claims.Job.{Job}
use Rattle.flux_defs.specs.Present.{Present}
use Rattle.flux_defs.specs.Jobs.{holds_over}
use Rattle.flux_defs.specs.Free.{IsFreeOver}
use Rattle.plain_jobs.specs.Spans.{some_overlap, IsMostTaken}
use Rattle.plain_jobs.proofs.Spans.{closed_tells}
use Rattle.plain_jobs.proofs.Free.{free_where_closed, free_of_pool, free_of_other, size_read, pool_read, size_fits}
use Rattle.plain_jobs.proofs.view.PlainJobsFreeView.free_over.Goals as goal

pub returns-then-is_closed-clause-answer : goal.returns-then-is_closed-clause-answer
returns-then-is_closed-clause-answer g c = λ present same.
    let vertices = c.args.self.now.graph.now.resources.vertices in
    let jobs = c.args.self.now.jobs.now in
    let read = c.is_closed.ensures ∙ ap
    (λ js. some_overlap js c.args.window (holds_over vertices c.args.vertex)) c.items-jobs.ensures in
    subst (λ (p : Present). IsFreeOver vertices p c.args.window c.args.vertex 0) (sym same)
    (free_where_closed vertices jobs c.args.window c.args.vertex c.is_closed.result c.if-is_closed.true
    (closed_tells vertices jobs c.args.window c.args.vertex c.requires.asked.opens c.is_closed.result read))

pub returns-then-is_pool-clause-answer : goal.returns-then-is_pool-clause-answer
returns-then-is_pool-clause-answer g c = λ present same.
    let vertices = c.args.self.now.graph.now.resources.vertices in
    let jobs = c.args.self.now.jobs.now in
    let read = c.is_closed.ensures ∙ ap
    (λ js. some_overlap js c.args.window (holds_over vertices c.args.vertex)) c.items-jobs.ensures in
    let closed = closed_tells vertices jobs c.args.window c.args.vertex c.requires.asked.opens c.is_closed.result read
    in
    let most =
    subst (λ (js : List Job). IsMostTaken js c.args.window c.args.vertex 18446744073709551615 c.most_taken.result)
    c.items-jobs.ensures c.most_taken.ensures in
    subst (λ (p : Present). IsFreeOver vertices p c.args.window c.args.vertex c.saturating_sub.result) (sym same)
    (free_of_pool vertices jobs c.args.window
    c.args.vertex c.is_closed.result c.most_taken.result _ c.saturating_sub.result c.if-is_closed.false closed
    (pool_read vertices c.items-vertices.result.now c.args.vertex _ (c.items-vertices.ensures
    ∙ c.vertices.ensures.value) c.requires.asked.within ∙ (sym c.is_pool.ensures ∙ c.if-is_pool.true))
    (size_read vertices c.items-vertices.result.now c.args.vertex _
    (c.items-vertices.ensures ∙ c.vertices.ensures.value) c.requires.asked.within)
    (size_fits vertices c.items-vertices.result.now c.args.vertex _
    (c.items-vertices.ensures ∙ c.vertices.ensures.value) c.requires.asked.within
    c.args.self.now.graph.now.resources.kinds c.vertices.ensures.valid.valid.sizes)
    c.saturating_sub.ensures most)

pub returns-clause-answer : goal.returns-clause-answer
returns-clause-answer g c = λ present same.
    let vertices = c.args.self.now.graph.now.resources.vertices in
    let jobs = c.args.self.now.jobs.now in
    let read = c.is_closed.ensures ∙ ap
    (λ js. some_overlap js c.args.window (holds_over vertices c.args.vertex)) c.items-jobs.ensures in
    let closed = closed_tells vertices jobs c.args.window c.args.vertex c.requires.asked.opens c.is_closed.result read
    in
    subst (λ (p : Present). IsFreeOver vertices p c.args.window c.args.vertex 1) (sym same)
    (free_of_other vertices jobs c.args.window c.args.vertex c.is_closed.result c.if-is_closed.false closed
    (pool_read vertices c.items-vertices.result.now c.args.vertex _ (c.items-vertices.ensures
    ∙ c.vertices.ensures.value) c.requires.asked.within ∙ (sym c.is_pool.ensures ∙ c.if-is_pool.false))
    c.requires.asked.opens)
