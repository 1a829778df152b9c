use Rattle.std.proofs.Common.{length}
use Rattle.vertex_planners.specs.Lists.{items_of}
use Rattle.vertex_accounts.specs.declared.quantities.Quantity.TheVariants.{Holds}
use Rattle.vertex_accounts.specs.Books.{counted_of}
use Rattle.vertex_accounts.proofs.AskingLaws.{place_in, look_work}
use Rattle.vertex_accounts.proofs.LittleLaws.{held_moment}
use Rattle.vertex_accounts.proofs.books.Accounts.held_over.Goals as goal

pub below_in-requires-clause-place : goal.below_in-requires-clause-place
below_in-requires-clause-place g c =
    place_in c.args.graph.now.resources.vertices (counted_of c.args.self.now) (items_of c.args.self.now.planners)
    c.requires.graph c.args.vertex c.at-item.result c.at-item.ensures.item 0 Holds c.requires.graph.counts.holds

pub returns-clause-answer : goal.returns-clause-answer
returns-clause-answer g c = λ jobs is.
    held_moment c.args.graph.now.resources.vertices jobs c.args.window c.args.vertex c.below_in.result
    (c.below_in.ensures.last c.args.graph.now.resources.vertices jobs Holds is is.graph.counts.holds)

pub returns-clause-work : goal.returns-clause-work
returns-clause-work g c = λ n looks.
    look_work (length (items_of c.args.self.now.planners))
    (length c.args.graph.now.resources.vertices) n c.args.steps.now c.at-item.new.steps c.below_in.new.steps
    c.requires.graph.len c.at-item.ensures.work (c.below_in.ensures.work n looks)
