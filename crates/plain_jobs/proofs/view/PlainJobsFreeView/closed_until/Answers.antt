use Rattle.std.proofs.Common.{IsTrue}
use Rattle.flux_defs.specs.Closed.{no_bars, is_closed}
use Rattle.plain_jobs.proofs.Later.{so_from_start}
use Rattle.plain_jobs.proofs.view.PlainJobsFreeView.closed_until.Goals as goal

pub returns-then-closed_over-clause-answer : goal.returns-then-closed_over-clause-answer
returns-then-closed_over-clause-answer g c = λ present same other reach.
    so_from_start
    (λ m. IsTrue (is_closed (no_bars c.args.self.now.graph.now.resources.vertices present) m c.args.vertex))
    c.args.window other ((c.closed_over.ensures.answer present same).0 c.if-closed_over.true) reach
