use Rattle.std.proofs.Common.{◌<◌, arith}
use Rattle.planner_points.specs.Spans.{HasRoom, IsLastBelow}
use Rattle.vertex_planners.specs.Lists.{items_of}
use Rattle.vertex_accounts.specs.Books.{counted_of}
use Rattle.vertex_accounts.proofs.AskingLaws.{units_as, place_in}
use Rattle.vertex_accounts.proofs.LittleLaws.{closed_or_enough, less_left}
use Rattle.vertex_accounts.proofs.books.Accounts.total_below.Goals as goal

pub below_in-requires-clause-place : goal.below_in-requires-clause-place
below_in-requires-clause-place g c =
    let (q, of, units) = c.requires.graph.counts.units c.requires.place.0 c.args.place c.requires.place.1 in
    place_in c.args.graph.now.resources.vertices (counted_of c.args.self.now) (items_of c.args.self.now.planners)
    c.requires.graph c.args.vertex c.at-item.result c.at-item.ensures.item c.args.place q of

pub returns-in-Some-clause-answer : goal.returns-in-Some-clause-answer
returns-in-Some-clause-answer g c = λ kind jobs at is.
    let vertices = c.args.graph.now.resources.vertices in
    let (q, of, units) = c.requires.graph.counts.units kind c.args.place at in
    let below = units_as (λ total spans. IsLastBelow total spans c.args.window c.args.amount c.in-Some.moment)
    vertices jobs kind c.args.vertex q units (c.in-Some.ensures.last vertices jobs q is of) in (
      below.later,
      below.sooner,
      less_left c.args.graph.now.resources c.is_valid.ensures.valid.preorder jobs is.fair kind c.args.vertex
          c.in-Some.moment c.args.amount below.less,
    )

pub returns-then-amount-eq0-clause-answer : goal.returns-then-amount-eq0-clause-answer
returns-then-amount-eq0-clause-answer g c = λ kind jobs at is (m, lo, hi, lt).
    let none = c.if-amount-eq0.true in omega (arith, lt, none)

pub returns-clause-answer : goal.returns-clause-answer
returns-clause-answer g c = λ kind jobs at is.
    let vertices = c.args.graph.now.resources.vertices in
    let (q, of, units) = c.requires.graph.counts.units kind c.args.place at in
    let room = units_as (λ total spans. HasRoom total spans c.args.window c.args.amount) vertices jobs kind
    c.args.vertex q units (c.in_default.ensures.last vertices jobs q is of) in
    let some : 0 < c.args.amount = (let ne = c.if-amount-eq0.false in omega (arith, ne)) in
    closed_or_enough c.args.graph.now.resources c.is_valid.ensures.valid.preorder jobs is.fair kind c.args.vertex
    c.requires.asked.within c.args.window c.args.amount some room c.closed_moment.result
    (c.closed_moment.ensures.answer jobs is)
