use Rattle.std.proofs.Common.{sym, ◌∙◌, ap, subst, IsTrue, ◌↔◌}
use Rattle.flux_defs.specs.Present.{Present}
use Rattle.flux_defs.specs.Closed.{IsTouchedOver}
use Rattle.flux_defs.specs.Jobs.{is_on_or_below}
use Rattle.plain_jobs.specs.Spans.{some_overlap}
use Rattle.plain_jobs.proofs.Spans.{touched_tells}
use Rattle.plain_jobs.proofs.view.PlainJobsFreeView.touched_over.Goals as goal

pub returns-clause-answer : goal.returns-clause-answer
returns-clause-answer g c = λ present same.
    let vertices = c.args.self.now.graph.now.resources.vertices in
    let read = c.is_touched.ensures
    ∙ ap (λ js. some_overlap js c.args.window (is_on_or_below vertices c.args.vertex)) c.items.ensures in
    subst (λ (p : Present). IsTrue c.is_touched.result ↔ IsTouchedOver vertices p c.args.window c.args.vertex)
    (sym same)
    (touched_tells vertices c.args.self.now.jobs.now c.args.window c.args.vertex c.requires.asked.opens
    c.is_touched.result
    read)
