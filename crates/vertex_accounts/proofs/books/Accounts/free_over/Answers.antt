use Rattle.std.proofs.Common.{sym, ◌∙◌, ap, arith, ℕ, ◌+◌, ◌*◌}
use Rattle.flux_defs.specs.Digits.{dig}
use Rattle.book_laws.proofs.Views.{free_closed, free_pool, free_plain}
use Rattle.vertex_planners.specs.Lists.{items_of}
use Rattle.vertex_accounts.specs.declared.quantities.Quantity.TheVariants.{Takes}
use Rattle.vertex_accounts.specs.Books.{counted_of}
use Rattle.vertex_accounts.proofs.AskingLaws.{place_in}
use Rattle.vertex_accounts.proofs.LittleLaws.{closed_told, never_closed}
use Rattle.vertex_accounts.proofs.books.Accounts.free_over.Goals as goal

pub returns-then-closed-clause-answer : goal.returns-then-closed-clause-answer
returns-then-closed-clause-answer g c = λ jobs is.
    free_closed c.args.graph.now.resources.vertices jobs c.args.window c.args.vertex
    ((closed_told c.args.graph.now.resources.vertices jobs c.args.window c.args.vertex c.closed_moment.result
    c.is_some-closed.result c.is_some-closed.ensures (c.closed_moment.ensures.answer jobs is)).0 c.if-closed.true)

pub returns-then-closed-clause-work : goal.returns-then-closed-clause-work
returns-then-closed-clause-work g c = λ n looks.
    let up = c.at-item.ensures.work in
    let len = ap (λ (k : ℕ). 2 * dig (k + 1)) c.requires.graph.len in
    let rest = c.closed_moment.ensures.work n looks in
    omega (arith, up, len, rest)

pub least_in-requires-clause-place : goal.least_in-requires-clause-place
least_in-requires-clause-place g c =
    place_in c.args.graph.now.resources.vertices (counted_of c.args.self.now) (items_of c.args.self.now.planners)
    c.requires.graph c.args.vertex c.at-item.result c.at-item.ensures.item 2 Takes c.requires.graph.counts.takes

pub returns-then-is_pool_vertex-clause-answer : goal.returns-then-is_pool_vertex-clause-answer
returns-then-is_pool_vertex-clause-answer g c = λ jobs is.
    let vertices = c.args.graph.now.resources.vertices in
    free_pool vertices jobs c.args.window c.args.vertex c.least_in.result
    (never_closed vertices jobs c.args.window c.args.vertex c.closed_moment.result c.is_some-closed.result
    c.is_some-closed.ensures c.if-closed.false (c.closed_moment.ensures.answer jobs is))
    (sym c.is_pool_vertex.ensures ∙ c.if-is_pool_vertex.true)
    (c.least_in.ensures.least vertices jobs Takes is is.graph.counts.takes)

pub returns-then-is_pool_vertex-clause-work : goal.returns-then-is_pool_vertex-clause-work
returns-then-is_pool_vertex-clause-work g c = λ n looks.
    let up = c.at-item.ensures.work in
    let len = ap (λ (k : ℕ). 2 * dig (k + 1)) c.requires.graph.len in
    let rest = c.closed_moment.ensures.work n looks in
    let look = c.least_in.ensures.work n looks in
    omega (arith, up, len, rest, look)

pub returns-clause-answer : goal.returns-clause-answer
returns-clause-answer g c = λ jobs is.
    let vertices = c.args.graph.now.resources.vertices in
    free_plain vertices jobs c.args.window c.args.vertex
    (never_closed vertices jobs c.args.window c.args.vertex c.closed_moment.result c.is_some-closed.result
    c.is_some-closed.ensures c.if-closed.false (c.closed_moment.ensures.answer jobs is))
    (sym c.is_pool_vertex.ensures ∙ c.if-is_pool_vertex.false) c.requires.asked.opens

pub returns-clause-work : goal.returns-clause-work
returns-clause-work g c = λ n looks.
    let up = c.at-item.ensures.work in
    let len = ap (λ (k : ℕ). 2 * dig (k + 1)) c.requires.graph.len in
    let rest = c.closed_moment.ensures.work n looks in
    omega (arith, up, len, rest)
