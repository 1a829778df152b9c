use Rattle.std.proofs.Common.{sym, ◌∙◌, ap, subst, IsTrue, ◌↔◌}
use Rattle.flux_defs.specs.Present.{Present}
use Rattle.flux_defs.specs.Closed.{IsClosedOver}
use Rattle.flux_defs.specs.Jobs.{holds_over}
use Rattle.plain_jobs.specs.Spans.{some_overlap}
use Rattle.plain_jobs.proofs.Spans.{closed_tells}
use Rattle.plain_jobs.proofs.view.PlainJobsFreeView.closed_over.Goals as goal

pub returns-clause-answer : goal.returns-clause-answer
returns-clause-answer g c = λ present same.
    let vertices = c.args.self.now.graph.now.resources.vertices in
    let read = c.is_closed.ensures
    ∙ ap (λ js. some_overlap js c.args.window (holds_over vertices c.args.vertex)) c.items.ensures in
    subst (λ (p : Present). IsTrue c.is_closed.result ↔ IsClosedOver vertices p c.args.window c.args.vertex) (sym same)
    (closed_tells vertices c.args.self.now.jobs.now c.args.window c.args.vertex c.requires.asked.opens
    c.is_closed.result
    read)
