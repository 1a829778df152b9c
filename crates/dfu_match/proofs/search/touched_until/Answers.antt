use Rattle.std.proofs.Common.{arith, List, subst}
use Rattle.flux_defs.specs.declared.vertices.Vertex.{Vertex}
use Rattle.flux_defs.specs.Closed.{IsTouchedOver}
use Rattle.dfu_match.proofs.HoldLaws.{touched_too, not_touched}
use Rattle.dfu_match.proofs.ReachLaws.{reach_later}
use Rattle.dfu_match.proofs.search.touched_until.Goals as goal

pub returns-in-Some-clause-touched : goal.returns-in-Some-clause-touched
returns-in-Some-clause-touched g c = λ is present stands w reach.
    let s = c.args.s.now in
    let later = reach_later s.window w c.min.result c.in-Some.moment (omega (arith, c.min.ensures)) reach in
    touched_too s.graph.now.resources.vertices present s.barred.now w c.args.vertex
    (subst (λ (vs : List Vertex). IsTouchedOver vs present w c.args.vertex) s.over
    (c.in-Some.ensures.answer present stands w later))

pub returns-in-None-clause-untouched : goal.returns-in-None-clause-untouched
returns-in-None-clause-untouched g c = λ is present stands.
    let s = c.args.s.now in
    not_touched s.graph.now.resources.vertices present s.barred.now s.window c.args.vertex s.opens c.bars_below.result
    c.if-bars_below.false c.bars_below.ensures
    (subst (λ (vs : List Vertex). IsTouchedOver vs present s.window c.args.vertex → ⊥) s.over
    (c.in-None.ensures.answer present stands))
