use Rattle.std.proofs.Common.{subst}
use Rattle.book_laws.specs.Amounts.{capacity}
use Rattle.graph_laws.proofs.Preorder.{parents_first}
use Rattle.book_laws.proofs.Views.{NeverClosed, none_in_total, left_in_total}
use Rattle.planner_points.specs.Spans.{IsLeastFree}
use Rattle.vertex_planners.specs.Lists.{items_of}
use Rattle.vertex_accounts.specs.Books.{counted_of}
use Rattle.vertex_accounts.specs.Quantities.{part_count}
use Rattle.book_laws.specs.Grouped.{grouped}
use Rattle.vertex_accounts.proofs.OwnLaws.{counts_all}
use Rattle.vertex_accounts.proofs.AskingLaws.{units_as, place_in}
use Rattle.vertex_accounts.proofs.LittleLaws.{closed_told, never_closed, nothing_left}
use Rattle.vertex_accounts.proofs.books.Accounts.total_over.Goals as goal

pub least_in-least-requires-clause-place : goal.least_in-least-requires-clause-place
least_in-least-requires-clause-place g c =
    let (q, of, units) = c.requires.graph.counts.units c.requires.place.0 c.args.place c.requires.place.1 in
    place_in c.args.graph.now.resources.vertices (counted_of c.args.self.now) (items_of c.args.self.now.planners)
    c.requires.graph c.args.vertex c.at-item.result c.at-item.ensures.item c.args.place q of

pub returns-then-least-eq0-clause-answer : goal.returns-then-least-eq0-clause-answer
returns-then-least-eq0-clause-answer g c = λ kind jobs at is.
    let vertices = c.args.graph.now.resources.vertices in
    let (q, of, units) = c.requires.graph.counts.units kind c.args.place at in
    nothing_left c.args.graph.now.resources c.is_valid.ensures.valid.preorder jobs is.fair kind c.args.vertex
    c.args.window (subst (IsLeastFree (capacity vertices kind c.args.vertex)
    (grouped (part_count vertices kind c.args.vertex) jobs) c.args.window) c.if-least-eq0.true
    (units_as (λ total spans. IsLeastFree total spans c.args.window c.least_in-least.result) vertices jobs kind
    c.args.vertex q units (c.least_in-least.ensures.least vertices jobs q is of)))

pub returns-then-closed-clause-answer : goal.returns-then-closed-clause-answer
returns-then-closed-clause-answer g c = λ kind jobs at is.
    none_in_total c.args.graph.now.resources c.is_valid.ensures.valid.preorder jobs c.args.window kind c.args.vertex
    ((closed_told c.args.graph.now.resources.vertices jobs c.args.window c.args.vertex c.closed_moment.result
    c.is_some-closed.result c.is_some-closed.ensures (c.closed_moment.ensures.answer jobs is)).0 c.if-closed.true)

pub returns-clause-answer : goal.returns-clause-answer
returns-clause-answer g c = λ kind jobs at is.
    let vertices = c.args.graph.now.resources.vertices in
    let (q, of, units) = c.requires.graph.counts.units kind c.args.place at in
    let least = units_as (λ total spans. IsLeastFree total spans c.args.window c.least_in-least.result) vertices jobs
    kind c.args.vertex q units (c.least_in-least.ensures.least vertices jobs q is of) in
    let never : NeverClosed vertices jobs c.args.window c.args.vertex =
    never_closed vertices jobs c.args.window c.args.vertex c.closed_moment.result c.is_some-closed.result
    c.is_some-closed.ensures c.if-closed.false (c.closed_moment.ensures.answer jobs is) in
    left_in_total c.args.graph.now.resources c.is_valid.ensures.valid.preorder jobs c.args.window kind c.args.vertex
    c.least_in-least.result is.fair never
    (counts_all vertices (parents_first c.args.graph.now.resources c.is_valid.ensures.valid.preorder)
    c.args.vertex c.requires.asked.within jobs c.args.window kind
    (capacity vertices kind c.args.vertex) c.least_in-least.result never least)
