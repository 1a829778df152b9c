use Rattle.std.proofs.Common.{sym, ◌∙◌}
use Rattle.std.proofs.lemmas.Option.{IfSome_then}
use Rattle.prune_laws.proofs.Demanded.{amount_some}
use Rattle.dfu_match.proofs.RefuteLaws.{known_refutes, valid_get}
use Rattle.dfu_match.proofs.refuting.refuted_known.Goals as goal

-- the need is one of the ask's, which are valid
pub refuted-requires : goal.refuted-requires
refuted-requires g c =
    let s = c.args.s.now in
    let vs = s.graph.now.resources.vertices in
    let need = c.in-Some.need.now in
    amount_some vs need (valid_get vs s.needs.now c.own.result need (sym c.in-Some.ensures.value) c.requires.valid)

-- there are rows of all of its vertices
pub returns-clause-none : goal.returns-clause-none
returns-clause-none g c = λ present stands w. IfSome_then c.refuted.result c.refuted.ensures (λ until told reach.
    let s = c.args.s.now in
    known_refutes s.graph.now.resources (g.F.FreeView.stands_for s.view.now) s.barred.now s.needs.now s.window w
    c.args.known.now c.own.result c.in-Some.need.now until c.requires.valid c.requires.known
    (c.reaches.ensures c.if-not-reaches.false ∙ c.len.ensures) (sym c.own.ensures) (sym c.in-Some.ensures.value)
    (rw c.rows.ensures at told.1) reach present stands)
