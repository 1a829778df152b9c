use Rattle.std.proofs.Common.{IsTrue}
use Rattle.flux_defs.specs.Closed.{no_bars, is_touched}
use Rattle.flux_defs.specs.Present.{up_with}
use Rattle.graph_laws.proofs.Preorder.{parents_first}
use Rattle.vertex_planners.specs.Lists.{items_of}
use Rattle.vertex_accounts.specs.declared.quantities.Quantity.TheVariants.{Holds, Claims}
use Rattle.vertex_accounts.specs.Books.{counted_of}
use Rattle.vertex_accounts.proofs.AskingLaws.{place_in}
use Rattle.vertex_accounts.proofs.ThroughLaws.{through_is, less_touched, claimed_touched, never_touched, narrow_room}
use Rattle.vertex_accounts.proofs.books.Accounts.touched_until.Goals as goal

pub below_in-requires-clause-place : goal.below_in-requires-clause-place
below_in-requires-clause-place g c =
    place_in c.args.graph.now.resources.vertices (counted_of c.args.self.now) (items_of c.args.self.now.planners)
    c.requires.graph c.args.vertex c.at-item.result c.at-item.ensures.item 0 Holds c.requires.graph.counts.holds

pub below_in-requires-2-clause-place : goal.below_in-requires-2-clause-place
below_in-requires-2-clause-place g c =
    place_in c.args.graph.now.resources.vertices (counted_of c.args.self.now) (items_of c.args.self.now.planners)
    c.requires.graph c.args.vertex c.at-item.result c.at-item.ensures.item 1 Claims c.requires.graph.counts.claims

pub through-requires-clause-place : goal.through-requires-clause-place
through-requires-clause-place g c =
    place_in c.args.graph.now.resources.vertices (counted_of c.args.self.now) (items_of c.args.self.now.planners)
    c.requires.graph c.args.vertex c.at-item.result c.at-item.ensures.item 0 Holds c.requires.graph.counts.holds

pub through-requires-in-Some-below_in-clause-place : goal.through-requires-in-Some-below_in-clause-place
through-requires-in-Some-below_in-clause-place g c =
    place_in c.args.graph.now.resources.vertices (counted_of c.args.self.now) (items_of c.args.self.now.planners)
    c.requires.graph c.args.vertex c.at-item.result c.at-item.ensures.item 1 Claims c.requires.graph.counts.claims

pub returns-in-Some-clause-answer : goal.returns-in-Some-clause-answer
returns-in-Some-clause-answer g c = λ jobs is.
    let graph = c.args.graph.now.resources in
    let first = parents_first graph c.is_valid.ensures.valid.preorder in
    let held = c.in-Some.ensures.last graph.vertices jobs Holds is is.graph.counts.holds in
    through_is c.args.window (λ m. IsTrue (is_touched (no_bars graph.vertices (up_with jobs)) m c.args.vertex))
    c.in-Some.moment
    c.through.result held.later held.sooner c.through.ensures.later
    (less_touched graph.vertices jobs c.args.vertex first c.requires.asked.within c.in-Some.moment held.less)
    (λ u lo hi. less_touched graph.vertices jobs c.args.vertex first c.requires.asked.within u
    (c.through.ensures.less graph.vertices jobs Holds is is.graph.counts.holds u lo hi))

pub returns-then-is_narrower-clause-answer : goal.returns-then-is_narrower-clause-answer
returns-then-is_narrower-clause-answer g c = λ jobs is.
    let graph = c.args.graph.now.resources in
    never_touched graph.vertices jobs c.args.vertex (parents_first graph c.is_valid.ensures.valid.preorder)
    c.requires.asked.within c.args.window (c.in_default.ensures.last graph.vertices jobs Holds is is.graph.counts.holds)
    (narrow_room graph.vertices jobs c.args.vertex c.args.self.now.narrowest c.args.window is.counting
    (c.is_narrower.ensures c.if-is_narrower.true))

pub returns-in-None-clause-answer : goal.returns-in-None-clause-answer
returns-in-None-clause-answer g c = λ jobs is.
    let graph = c.args.graph.now.resources in
    never_touched graph.vertices jobs c.args.vertex (parents_first graph c.is_valid.ensures.valid.preorder)
    c.requires.asked.within c.args.window (c.in_default.ensures.last graph.vertices jobs Holds is is.graph.counts.holds)
    (c.in-None.ensures.last graph.vertices jobs Claims is is.graph.counts.claims)

pub returns-in-Some-below_in-clause-answer : goal.returns-in-Some-below_in-clause-answer
returns-in-Some-below_in-clause-answer g c = λ jobs is.
    let graph = c.args.graph.now.resources in
    let first = parents_first graph c.is_valid.ensures.valid.preorder in
    let claimed = c.in-Some-below_in.ensures.last graph.vertices jobs Claims is is.graph.counts.claims in
    through_is c.args.window (λ m. IsTrue (is_touched (no_bars graph.vertices (up_with jobs)) m c.args.vertex))
    c.in-Some-below_in.moment c.through-in-Some-below_in.result claimed.later claimed.sooner
    c.through-in-Some-below_in.ensures.later
    (claimed_touched graph.vertices jobs c.args.vertex first c.requires.asked.within c.in-Some-below_in.moment
    claimed.less)
    (λ u lo hi. claimed_touched graph.vertices jobs c.args.vertex first c.requires.asked.within u
    (c.through-in-Some-below_in.ensures.less graph.vertices jobs Claims is is.graph.counts.claims u lo hi))
