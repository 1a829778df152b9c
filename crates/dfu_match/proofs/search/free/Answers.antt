use Rattle.std.proofs.Common.{List, subst}
use Rattle.flux_defs.specs.declared.vertices.Vertex.{Vertex}
use Rattle.flux_defs.specs.Free.{IsFreeOver}
use Rattle.match_laws.proofs.ViewLaws.{free_unbarred}
use Rattle.dfu_match.proofs.search.free.Goals as goal

pub returns-clause-answer : goal.returns-clause-answer
returns-clause-answer g c = λ present stands.
    let s = c.args.s.now in
    let told = subst (λ (vs : List Vertex). IsFreeOver vs present s.window c.args.vertex c.free_over.result) s.over
    (c.free_over.ensures.answer present stands) in
    free_unbarred s.graph.now.resources.vertices present s.barred.now s.window c.args.vertex s.opens c.bars_over.result
    c.free_over.result c.if-bars_over.false c.bars_over.ensures told
