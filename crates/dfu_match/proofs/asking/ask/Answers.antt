use Rattle.std.proofs.Common.{◌≡◌, ◌+◌, refl, arith}
use Rattle.flux_defs.specs.declared.claims.Claim.{Claim}
use Rattle.flux_laws.proofs.Takes.{takes_less}
use Rattle.dfu_match.specs.Rows.{whole_of}
use Rattle.dfu_match.specs.Searches.{meets, open_to}
use Rattle.dfu_match.specs.Tables.{needs_all}
use Rattle.dfu_match.proofs.AskLaws as laws
use Rattle.dfu_match.proofs.CountLaws.{valid_inside, vertex_closed}
use Rattle.dfu_match.proofs.StepLaws as steps
use Rattle.dfu_match.proofs.TableLaws as tables
use Rattle.dfu_match.proofs.asking.ask.Goals as goal

pub returns-then-refuses_until-clause-row : goal.returns-then-refuses_until-clause-row
returns-then-refuses_until-clause-row g c =
    let s = c.args.s.now in
    let vs = s.graph.now.resources.vertices in
    record {
      of_need = c.requires.of_need;
      bounds = λ lt present stands other reach.
          let ok : Claim → Type 0 = open_to vs present s.barred.now other in
          laws.at_most_greatest vs ok (takes_less (meets vs present s.barred.now) other) c.args.need.now c.args.vertex 1
          0 (omega arith) (λ scope within. rw c.in-Vert.is (vertex_closed vs ok scope c.in-Vert.kind c.in-Vert.count
          c.in-Vert.hold c.in-Vert.needs c.args.vertex 1
          (c.refuses_until.ensures.refuses c.if-refuses_until.true present stands other reach)));
    }

pub copies-most-requires-clause-stand : goal.copies-most-requires-clause-stand
copies-most-requires-clause-stand g c =
    tables.inside_Vert (needs_all c.args.s.now.needs.now) c.args.s.now.wanted.now c.args.index
    c.index_within-within.result c.in-Vert.kind c.in-Vert.count c.in-Vert.hold c.in-Vert.needs
    c.index_within-within.ensures (rw c.in-Vert.is at c.requires.stands)

pub copies-most-requires-clause-valid : goal.copies-most-requires-clause-valid
copies-most-requires-clause-valid g c =
    valid_inside c.args.s.now.graph.now.resources.vertices c.in-Vert.kind c.in-Vert.count c.in-Vert.hold
    c.in-Vert.needs (rw c.in-Vert.is at c.requires.valid)

pub copies-most-requires-clause-open : goal.copies-most-requires-clause-open
copies-most-requires-clause-open g c = c.refuses_until.ensures.open c.if-refuses_until.false

pub returns-else-refuses_until-clause-row : goal.returns-else-refuses_until-clause-row
returns-else-refuses_until-clause-row g c =
    let s = c.args.s.now in
    let vs = s.graph.now.resources.vertices in
    let whole : whole_of c.args.need.now ≡ 1 = rw c.in-Vert.is refl in
    let told = c.whole_of-whole.ensures in
    laws.row_over vs (g.F.FreeView.stands_for s.view.now) s.barred.now s.window c.args.need.now c.args.vertex
    c.copies-most.result c.until_served.result c.requires.of_need
    (λ lt. c.until_served.ensures (omega (arith, lt, told)))
    (λ lt present stands. rw c.in-Vert.is (laws.at_most_inside vs (open_to vs present s.barred.now s.window)
    c.in-Vert.kind c.in-Vert.count c.in-Vert.hold c.in-Vert.needs c.args.vertex c.copies-most.result
    (omega (arith, lt, whole)) (c.copies-most.ensures.greatest present stands)))

pub returns-else-refuses_until-clause-work : goal.returns-else-refuses_until-clause-work
returns-else-refuses_until-clause-work g c = λ present stands place past.
    rw c.in-Vert.is (λ plain here clear after.
    let within = steps.in_vertex _ _ c.is_valid.ensures.valid present _ _ (needs_all c.args.s.now.needs.now) place _ _
    _ _ _
    (rw c.in-Vert.is at c.requires.valid) here clear in
    steps.takes_later _ _ _ _ _ _ _ _ _ _ c.refuses_until.ensures.work
    (steps.after_Vert place c.in-Vert.kind c.in-Vert.count c.in-Vert.hold c.in-Vert.needs)
    (c.copies-most.ensures.work present stands (place + 1) (c.args.vertex + 1) past within.0 within.1 (refl, after)))

pub returns-in-Pool-clause-row : goal.returns-in-Pool-clause-row
returns-in-Pool-clause-row g c =
    let s = c.args.s.now in
    let vs = s.graph.now.resources.vertices in
    let told = c.whole_of-whole.ensures in
    let most = c.from.ensures in
    laws.row_over vs (g.F.FreeView.stands_for s.view.now) s.barred.now s.window c.args.need.now c.args.vertex
    c.serves-most.result c.until_served-in-Pool.result c.requires.of_need
    (λ lt. c.until_served-in-Pool.ensures (omega (arith, lt, told)))
    (λ lt present stands.
    laws.at_most_greatest vs (open_to vs present s.barred.now s.window)
    (takes_less (meets vs present s.barred.now) s.window) c.args.need.now c.args.vertex c.from.result
    c.serves-most.result (omega (arith, lt, told, most)) (c.serves-most.ensures.greatest present stands))
