use Rattle.dfu_match.proofs.RowLaws.{knows_nothing}
use Rattle.dfu_match.proofs.matching.match_at.Goals as goal

pub returns-in_err-claims-clause-work : goal.returns-in_err-claims-clause-work
returns-in_err-claims-clause-work g c = λ present stands looks enough.
    c.over.ensures.work present stands looks (rw (c.in_ok-matcher.ensures.graph, c.in_ok-matcher.ensures.ask) enough)

pub returns-in-Fits-clause-work : goal.returns-in-Fits-clause-work
returns-in-Fits-clause-work g c = λ present stands looks enough.
    c.over.ensures.work present stands looks (rw (c.in_ok-matcher.ensures.graph, c.in_ok-matcher.ensures.ask) enough)

pub returns-in-Short-clause-work : goal.returns-in-Short-clause-work
returns-in-Short-clause-work g c = λ present stands looks enough.
    c.over.ensures.work present stands looks (rw (c.in_ok-matcher.ensures.graph, c.in_ok-matcher.ensures.ask) enough)

pub returns-clause-work : goal.returns-clause-work
returns-clause-work g c = λ present stands looks enough.
    c.over.ensures.work present stands looks (rw (c.in_ok-matcher.ensures.graph, c.in_ok-matcher.ensures.ask) enough)

pub over-requires-clause-known : goal.over-requires-clause-known
over-requires-clause-known g c =
    let matcher = c.in_ok-matcher.matcher in
    knows_nothing matcher.graph.now.resources.vertices (g.F.FreeView.stands_for c.args.view.now)
    matcher.ask.now.barred matcher.ask.now.needs c.args.window c.never-known.result c.never-known.ensures.rows
    c.never-known.ensures.end
