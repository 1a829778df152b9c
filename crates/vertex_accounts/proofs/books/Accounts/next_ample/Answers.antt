use Rattle.std.proofs.Common.{ℕ, ◌+◌, ◌*◌, slice_get, sym, ◌∙◌, ap, arith}
use Rattle.flux_defs.specs.Digits.{dig}
use Rattle.list_laws.proofs.Lists.{get_some}
use Rattle.vertex_planners.specs.Lists.{items_of}
use Rattle.vertex_accounts.specs.declared.counted.Counted.{Counted}
use Rattle.vertex_accounts.specs.Books.{counted_of}
use Rattle.vertex_accounts.proofs.AskingLaws.{place_in, told_here, FirstOrNone}
use Rattle.vertex_accounts.proofs.RootLaws.{next_ample_is, units_first}
use Rattle.vertex_accounts.proofs.books.Accounts.next_ample.Goals as goal

pub first_free-requires : goal.first_free-requires
first_free-requires g c =
    let (q, of, units) = c.requires.graph.counts.units c.args.kind c.in-Some-place_of.place (ap
    (λ (x : Counted). slice_get x.places c.args.kind) (sym c.counted.ensures) ∙ c.in-Some-place_of.ensures.place) in
    record {
      place = place_in c.args.graph.now.resources.vertices
          (counted_of c.args.self.now) (items_of c.args.self.now.planners)
          c.requires.graph 0 c.at-item.result c.at-item.ensures.item c.in-Some-place_of.place q of;
    }

pub returns-clause-answer : goal.returns-clause-answer
returns-clause-answer g c = λ jobs is.
    let graph = c.args.graph.now in
    let vertices = graph.resources.vertices in
    let (q, of, units) = c.requires.graph.counts.units c.args.kind c.in-Some-place_of.place (ap
    (λ (x : Counted). slice_get x.places c.args.kind) (sym c.counted.ensures) ∙ c.in-Some-place_of.ensures.place) in
    next_ample_is graph.resources c.is_valid.ensures.valid.preorder jobs is.fair c.args.kind
    c.args.after c.in-Some.next c.args.amount (c.in-Some.ensures.answer vertices jobs is) c.first_free.result
    (units_first vertices jobs c.args.kind c.in-Some.next c.args.amount c.first_free.result q units
    (told_here vertices (counted_of c.args.self.now) (items_of c.args.self.now.planners)
    is.graph 0 c.at-item.result c.at-item.ensures.item c.in-Some-place_of.place q of
    (λ total spans. FirstOrNone total spans c.in-Some.next c.args.amount c.first_free.result)
    g.P.Planner.total_of g.P.Planner.stands_for jobs is.kept c.first_free.ensures.first))

pub returns-clause-work : goal.returns-clause-work
returns-clause-work g c = λ n looks.
    let (q, of, units) = c.requires.graph.counts.units c.args.kind c.in-Some-place_of.place (ap
    (λ (x : Counted). slice_get x.places c.args.kind) (sym c.counted.ensures) ∙ c.in-Some-place_of.ensures.place) in
    let inside =
    place_in c.args.graph.now.resources.vertices (counted_of c.args.self.now) (items_of c.args.self.now.planners)
    c.requires.graph 0 c.at-item.result c.at-item.ensures.item c.in-Some-place_of.place q of in
    let (p, at) = get_some c.at-item.result c.in-Some-place_of.place inside in
    let few = looks 0 c.in-Some-place_of.place c.at-item.result p c.at-item.ensures.item at in
    let look = c.first_free.ensures.work p at in
    let next = c.next_point.ensures.work in
    let up = c.at-item.ensures.work in
    let len = ap (λ (k : ℕ). 2 * dig (k + 1)) c.requires.graph.len in
    omega (arith, few, look, next, up, len)
