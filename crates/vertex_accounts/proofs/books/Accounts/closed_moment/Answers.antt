use Rattle.std.proofs.Common.{◌≡◌, ◌+◌, ◌-◌, ◌*◌, ◌≤◌, ℕ, Some, None, length, refl, subst, arith}
use Rattle.flux_defs.specs.Graph.{chain}
use Rattle.list_laws.proofs.Lists.{get_some}
use Rattle.graph_laws.proofs.Preorder.{parents_first}
use Rattle.vertex_planners.specs.Lists.{items_of}
use Rattle.vertex_accounts.specs.declared.quantities.Quantity.TheVariants.{Holds}
use Rattle.vertex_accounts.specs.Costs.{look_most}
use Rattle.vertex_accounts.specs.Books.{counted_of}
use Rattle.vertex_accounts.specs.Moments.{IsMomentOrNone}
use Rattle.vertex_accounts.proofs.AskingLaws.{place_in, closed_work}
use Rattle.vertex_accounts.proofs.LittleLaws.{above_along, along_at, closed_moment_is, held_moment}
use Rattle.vertex_accounts.proofs.LittleLaws.{here_along, wide_none}
use Rattle.vertex_accounts.proofs.books.Accounts.closed_moment.Goals as goal

pub below_in-requires-clause-place : goal.below_in-requires-clause-place
below_in-requires-clause-place g c =
    place_in c.args.graph.now.resources.vertices (counted_of c.args.self.now) (items_of c.args.self.now.planners)
    c.requires.graph c.args.vertex c.args.item.now c.requires.item 0 Holds c.requires.graph.counts.holds

pub returns-in-Some-clause-answer : goal.returns-in-Some-clause-answer
returns-in-Some-clause-answer g c = λ jobs is.
    let vertices = c.args.graph.now.resources.vertices in
    let inside = c.requires.asked.within in
    let held = held_moment vertices jobs c.args.window c.args.vertex (Some c.in-Some.moment)
    (c.in-Some.ensures.last vertices jobs Holds is is.graph.counts.holds) in
    closed_moment_is vertices jobs c.args.window c.args.vertex (Some c.in-Some.moment)
    (here_along jobs c.args.window vertices (length vertices) c.args.vertex (Some c.args.vertex)
    (λ e. omega (arith, e, inside)) refl c.in-Some.moment held)

pub returns-in-None-clause-answer : goal.returns-in-None-clause-answer
returns-in-None-clause-answer g c = λ jobs is.
    let vertices = c.args.graph.now.resources.vertices in
    let inside = c.requires.asked.within in
    let never = held_moment vertices jobs c.args.window c.args.vertex None
    (c.in-None.ensures.last vertices jobs Holds is is.graph.counts.holds) in
    let most : c.saturating_sub-most.result ≡ length vertices - 1 =
    let less = c.saturating_sub-most.ensures in
    let all = c.len.ensures in
    omega (arith, less, all) in
    let along = subst
    (λ (k : ℕ). IsMomentOrNone c.args.window (along_at jobs vertices k c.upper-upper.result) c.held_up.result) most
    (c.held_up.ensures.answer jobs is) in
    closed_moment_is vertices jobs c.args.window c.args.vertex c.held_up.result
    (above_along jobs c.args.window vertices (length vertices) c.args.vertex (Some c.args.vertex)
    (λ e. omega (arith, e, inside)) refl c.upper-upper.result c.held_up.result c.upper-upper.ensures.value never along)

pub returns-in-None-clause-work : goal.returns-in-None-clause-work
returns-in-None-clause-work g c = λ n looks.
    let vertices = c.args.graph.now.resources.vertices in
    let most : c.saturating_sub-most.result ≡ length vertices - 1 =
    let less = c.saturating_sub-most.ensures in
    let all = c.len.ensures in
    omega (arith, less, all) in
    let along = subst (λ (k : ℕ). c.held_up.new.steps ≤ c.below_in.new.steps + length
    (chain vertices k c.upper-upper.result) * look_most (length vertices) n) most (c.held_up.ensures.work n looks) in
    let (x, at) = get_some vertices c.args.vertex c.requires.asked.within in
    closed_work vertices c.args.vertex n c.args.steps.now c.below_in.new.steps c.held_up.new.steps
    c.requires.asked.within
    (c.is_valid.ensures.valid.shallow c.args.vertex x at)
    (c.below_in.ensures.work n looks)
    (subst (λ (o : _). c.held_up.new.steps ≤ c.below_in.new.steps + length
    (chain vertices (length vertices - 1) o) * look_most (length vertices) n) c.upper-upper.ensures.value along)

pub returns-then-is_wider-clause-answer : goal.returns-then-is_wider-clause-answer
returns-then-is_wider-clause-answer g c = λ jobs is.
    let graph = c.args.graph.now.resources in
    let vertices = graph.vertices in
    closed_moment_is vertices jobs c.args.window c.args.vertex None
    (wide_none vertices (parents_first graph c.is_valid.ensures.valid.preorder) c.args.self.now.widest jobs
    c.args.window c.args.vertex (length vertices) is.widths (c.is_wider.ensures c.if-is_wider.true))
