use Rattle.vertex_planners.specs.Lists.{items_of}
use Rattle.std.proofs.Common.{arith}
use Rattle.list_laws.proofs.Lists.{get_some}
use Rattle.planner_points.specs.Spans.{IsLeastFree}
use Rattle.vertex_accounts.specs.Books.{counted_of}
use Rattle.vertex_accounts.proofs.AskingLaws.{told_here}
use Rattle.vertex_accounts.proofs.books.Accounts.least_in.Goals as goal

pub returns-clause-least : goal.returns-clause-least
returns-clause-least g c = λ vertices jobs q is of.
    told_here vertices (counted_of c.args.self.now)
    (items_of c.args.self.now.planners) is.graph c.args.vertex c.args.item.now c.requires.item c.args.place q of
    (λ total spans. IsLeastFree total spans c.args.window c.least.result)
    g.P.Planner.total_of g.P.Planner.stands_for jobs is.kept c.least.ensures.least

pub returns-clause-work : goal.returns-clause-work
returns-clause-work g c = λ n looks.
    let (p, at) = get_some c.args.item.now c.args.place c.requires.place in
    let few = looks c.args.vertex c.args.place c.args.item.now p c.requires.item at in
    let work = c.least.ensures.work p at in
    omega (arith, few, work)
