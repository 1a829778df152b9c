use Rattle.std.proofs.Common.{◌<◌, arith}
use Rattle.flux_defs.specs.Free.{IsTooLittleAt}
use Rattle.flux_defs.specs.Present.{up_with}
use Rattle.planner_points.specs.Spans.{free_at, HasRoom, IsLastBelow}
use Rattle.vertex_planners.specs.Lists.{items_of}
use Rattle.vertex_accounts.specs.Books.{counted_of}
use Rattle.vertex_accounts.proofs.AskingLaws.{units_as, place_in}
use Rattle.vertex_accounts.proofs.LittleLaws.{less_left}
use Rattle.vertex_accounts.proofs.ThroughLaws.{through_is, closed_or_through}
use Rattle.vertex_accounts.proofs.books.Accounts.total_until.Goals as goal

pub below_in-requires-clause-place : goal.below_in-requires-clause-place
below_in-requires-clause-place g c =
    let (q, of, units) = c.requires.graph.counts.units c.requires.place.0 c.args.place c.requires.place.1 in
    place_in c.args.graph.now.resources.vertices (counted_of c.args.self.now) (items_of c.args.self.now.planners)
    c.requires.graph c.args.vertex c.at-item.result c.at-item.ensures.item c.args.place q of

pub through-requires-clause-place : goal.through-requires-clause-place
through-requires-clause-place g c =
    let (q, of, units) = c.requires.graph.counts.units c.requires.place.0 c.args.place c.requires.place.1 in
    place_in c.args.graph.now.resources.vertices (counted_of c.args.self.now) (items_of c.args.self.now.planners)
    c.requires.graph c.args.vertex c.at-item.result c.at-item.ensures.item c.args.place q of

pub returns-in-Some-clause-answer : goal.returns-in-Some-clause-answer
returns-in-Some-clause-answer g c = λ kind jobs at is.
    let graph = c.args.graph.now.resources in
    let (q, of, units) = c.requires.graph.counts.units kind c.args.place at in
    let below = units_as (λ total spans. IsLastBelow total spans c.args.window c.args.amount c.in-Some.moment)
    graph.vertices jobs kind c.args.vertex q units (c.in-Some.ensures.last graph.vertices jobs q is of) in
    through_is c.args.window (IsTooLittleAt graph.vertices (up_with jobs) c.args.vertex kind c.args.amount)
    c.in-Some.moment
    c.through.result below.later below.sooner c.through.ensures.later
    (less_left graph c.is_valid.ensures.valid.preorder jobs is.fair kind c.args.vertex c.in-Some.moment c.args.amount
    below.less)
    (λ u lo hi. less_left graph c.is_valid.ensures.valid.preorder jobs is.fair kind c.args.vertex u c.args.amount
    (units_as (λ total spans. free_at total spans u < c.args.amount) graph.vertices jobs kind c.args.vertex q units
    (c.through.ensures.less graph.vertices jobs q is of u lo hi)))

pub returns-then-amount-eq0-clause-answer : goal.returns-then-amount-eq0-clause-answer
returns-then-amount-eq0-clause-answer g c = λ kind jobs at is (m, lo, hi, lt).
    let none = c.if-amount-eq0.true in omega (arith, lt, none)

pub returns-clause-answer : goal.returns-clause-answer
returns-clause-answer g c = λ kind jobs at is.
    let vertices = c.args.graph.now.resources.vertices in
    let (q, of, units) = c.requires.graph.counts.units kind c.args.place at in
    let room = units_as (λ total spans. HasRoom total spans c.args.window c.args.amount) vertices jobs kind
    c.args.vertex q units (c.in_default.ensures.last vertices jobs q is of) in
    let some : 0 < c.args.amount = (let ne = c.if-amount-eq0.false in omega (arith, ne)) in
    closed_or_through c.args.graph.now.resources c.is_valid.ensures.valid.preorder jobs is.fair kind c.args.vertex
    c.requires.asked.within c.args.window c.args.amount some room c.closed_through.result
    (c.closed_through.ensures.answer jobs is)
