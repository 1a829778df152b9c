use Rattle.std.proofs.Common.{arith, List, subst}
use Rattle.flux_defs.specs.declared.vertices.Vertex.{Vertex}
use Rattle.flux_defs.specs.Closed.{IsClosedOver}
use Rattle.dfu_match.proofs.HoldLaws.{closed_too, not_closed}
use Rattle.dfu_match.proofs.ReachLaws.{reach_later}
use Rattle.dfu_match.proofs.search.closed_until.Goals as goal

pub returns-in-Some-clause-closed : goal.returns-in-Some-clause-closed
returns-in-Some-clause-closed g c = λ is present stands w reach.
    let s = c.args.s.now in
    let later = reach_later s.window w c.min.result c.in-Some.moment (omega (arith, c.min.ensures)) reach in
    closed_too s.graph.now.resources.vertices present s.barred.now w c.args.vertex
    (subst (λ (vs : List Vertex). IsClosedOver vs present w c.args.vertex) s.over
    (c.in-Some.ensures.answer present stands w later))

pub returns-in-None-clause-open : goal.returns-in-None-clause-open
returns-in-None-clause-open g c = λ is present stands.
    let s = c.args.s.now in
    not_closed s.graph.now.resources.vertices present s.barred.now s.window c.args.vertex s.opens c.bars_over.result
    c.if-bars_over.false c.bars_over.ensures
    (subst (λ (vs : List Vertex). IsClosedOver vs present s.window c.args.vertex → ⊥) s.over
    (c.in-None.ensures.answer present stands))
