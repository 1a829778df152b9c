use Rattle.std.proofs.Common.{◌↔◌, IsTrue, List, subst}
use Rattle.flux_defs.specs.declared.vertices.Vertex.{Vertex}
use Rattle.flux_defs.specs.Closed.{IsClosedOver}
use Rattle.match_laws.proofs.ViewLaws.{closed_unbarred}
use Rattle.dfu_match.proofs.search.closed.Goals as goal

pub returns-else-bars_over-clause-answer : goal.returns-else-bars_over-clause-answer
returns-else-bars_over-clause-answer g c = λ present stands.
    let s = c.args.s.now in
    let told = subst (λ (vs : List Vertex). IsTrue c.closed_over.result ↔ IsClosedOver vs present s.window
    c.args.vertex)
    s.over (c.closed_over.ensures.answer present stands) in
    closed_unbarred s.graph.now.resources.vertices present s.barred.now s.window c.args.vertex s.opens
    c.closed_over.result c.bars_over.result c.if-bars_over.false c.bars_over.ensures told
