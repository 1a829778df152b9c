use Rattle.graph_laws.proofs.Preorder.{parents_first}
use Rattle.dfu_match.specs.Searches.{meets}
use Rattle.dfu_match.proofs.HoldLaws.{passes, touched_held, untouched_held}
use Rattle.dfu_match.proofs.search.admits.Goals as goal

pub returns-then-not-hold-clause-answer : goal.returns-then-not-hold-clause-answer
returns-then-not-hold-clause-answer g c = λ present stands.
    let s = c.args.s.now in
    passes (meets s.graph.now.resources.vertices present s.barred.now)
    s.window c.args.vertex c.args.hold c.closed.result c.if-not-hold.true (c.closed.ensures.answer present stands)

pub returns-then-touched-clause-answer : goal.returns-then-touched-clause-answer
returns-then-touched-clause-answer g c = λ present stands.
    let s = c.args.s.now in
    touched_held (meets s.graph.now.resources.vertices present s.barred.now)
    s.window c.args.vertex c.args.hold c.touched.result c.if-not-hold.false c.if-touched.true
    (c.touched.ensures.answer present stands)

pub returns-clause-answer : goal.returns-clause-answer
returns-clause-answer g c = λ present stands.
    let s = c.args.s.now in
    let graph = s.graph.now.resources in
    untouched_held graph.vertices (parents_first graph c.is_valid.ensures.valid.preorder)
    c.args.vertex c.requires.vertex present s.barred.now s.window c.args.hold c.if-not-hold.false
    c.closed_above.result (c.closed_above.ensures.answer present stands) c.touched.result c.if-touched.false
    (c.touched.ensures.answer present stands)
