use Rattle.std.proofs.Common.{IsTrue}
use Rattle.flux_defs.specs.Closed.{no_bars, is_closed}
use Rattle.flux_defs.specs.Present.{up_with}
use Rattle.vertex_planners.specs.Lists.{items_of}
use Rattle.vertex_accounts.specs.declared.quantities.Quantity.TheVariants.{Holds}
use Rattle.vertex_accounts.specs.Books.{counted_of}
use Rattle.vertex_accounts.proofs.AskingLaws.{place_in}
use Rattle.vertex_accounts.proofs.ThroughLaws.{through_is, less_closed}
use Rattle.vertex_accounts.proofs.books.Accounts.closed_through.Goals as goal

pub through-requires-clause-place : goal.through-requires-clause-place
through-requires-clause-place g c =
    place_in c.args.graph.now.resources.vertices (counted_of c.args.self.now) (items_of c.args.self.now.planners)
    c.requires.graph c.args.vertex c.args.item.now c.requires.item 0 Holds c.requires.graph.counts.holds

pub returns-in-Some-clause-answer : goal.returns-in-Some-clause-answer
returns-in-Some-clause-answer g c = λ jobs is.
    let vertices = c.args.graph.now.resources.vertices in
    let (from, to, closed) = c.in-Some.ensures.answer jobs is in
    through_is c.args.window (λ m. IsTrue (is_closed (no_bars vertices (up_with jobs)) m c.args.vertex))
    c.in-Some.moment
    c.through.result from to c.through.ensures.later closed
    (λ u lo hi. less_closed vertices jobs c.args.vertex c.requires.asked.within u
    (c.through.ensures.less vertices jobs Holds is is.graph.counts.holds u lo hi))
