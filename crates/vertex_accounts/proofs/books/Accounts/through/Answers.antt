use Rattle.std.proofs.Common.{Some, None, arith}
use Rattle.list_laws.proofs.Lists.{get_some}
use Rattle.vertex_planners.specs.Lists.{items_of}
use Rattle.vertex_accounts.specs.Books.{counted_of}
use Rattle.vertex_accounts.proofs.AskingLaws.{told_here, FirstOrNone}
use Rattle.vertex_accounts.proofs.books.Accounts.through.Goals as goal

pub returns-in-None-clause-less : goal.returns-in-None-clause-less
returns-in-None-clause-less g c = λ vertices jobs q is of m lo hi.
    told_here vertices (counted_of c.args.self.now) (items_of c.args.self.now.planners) is.graph c.args.vertex
    c.args.item.now c.requires.item c.args.place q of
    (λ total spans. FirstOrNone total spans c.args.moment c.args.amount None)
    g.P.Planner.total_of g.P.Planner.stands_for jobs is.kept c.in-None.ensures.first m (omega arith)

pub returns-in-Some-clause-less : goal.returns-in-Some-clause-less
returns-in-Some-clause-less g c = λ vertices jobs q is of m lo hi.
    let first = told_here vertices (counted_of c.args.self.now) (items_of c.args.self.now.planners) is.graph
    c.args.vertex c.args.item.now c.requires.item c.args.place q of
    (λ total spans. FirstOrNone total spans c.args.moment c.args.amount (Some c.in-Some.first))
    g.P.Planner.total_of g.P.Planner.stands_for jobs is.kept c.in-Some.ensures.first in
    let later = first.later in
    first.least m (omega arith) (omega (arith, lo, hi, later))

pub returns-in-None-clause-work : goal.returns-in-None-clause-work
returns-in-None-clause-work g c = λ n looks.
    let (p, at) = get_some c.args.item.now c.args.place c.requires.place in
    let few = looks c.args.vertex c.args.place c.args.item.now p c.requires.item at in
    let work = c.first_free.ensures.work p at in
    omega (arith, few, work)

pub returns-in-Some-clause-work : goal.returns-in-Some-clause-work
returns-in-Some-clause-work g c = λ n looks.
    let (p, at) = get_some c.args.item.now c.args.place c.requires.place in
    let few = looks c.args.vertex c.args.place c.args.item.now p c.requires.item at in
    let work = c.first_free.ensures.work p at in
    omega (arith, few, work)
