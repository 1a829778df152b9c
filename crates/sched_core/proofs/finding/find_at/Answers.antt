use Rattle.std.proofs.Common.{IfOk, sym, subst}
use Rattle.sched_core.specs.declared.finding.Starts.{Starts}
use Rattle.sched_core.specs.Answered.{FindsAt, FoundIn}
use Rattle.sched_core.specs.SearchCosts.{BookTakes}
use Rattle.sched_core.proofs.finding.find_at.Goals as goal

pub returns-in-Now-clause-found : goal.returns-in-Now-clause-found
returns-in-Now-clause-found g c =
    subst (λ (at : Starts). IfOk c.find_now.result (λ v. FoundIn c.args.graph.now.resources c.args.horizon
    c.args.book.now c.args.moment (λ set s. FindsAt at set s c.args.ask.now v))) (sym c.in-Now.is)
    c.find_now.ensures.found

pub returns-in-Now-clause-work : goal.returns-in-Now-clause-work
returns-in-Now-clause-work g c =
    subst (λ (at : Starts). BookTakes c.args.graph.now.resources c.args.horizon c.args.book.now c.args.moment at
    c.args.ask.now c.find_now.result c.args.steps.now c.find_now.new.steps) (sym c.in-Now.is) c.find_now.ensures.work

pub returns-in-Earliest-clause-found : goal.returns-in-Earliest-clause-found
returns-in-Earliest-clause-found g c =
    subst (λ (at : Starts). IfOk c.find_earliest.result (λ v. FoundIn c.args.graph.now.resources c.args.horizon
    c.args.book.now c.args.moment (λ set s. FindsAt at set s c.args.ask.now v))) (sym c.in-Earliest.is)
    c.find_earliest.ensures.found

pub returns-in-Earliest-clause-work : goal.returns-in-Earliest-clause-work
returns-in-Earliest-clause-work g c =
    subst (λ (at : Starts). BookTakes c.args.graph.now.resources c.args.horizon c.args.book.now c.args.moment at
    c.args.ask.now c.find_earliest.result c.args.steps.now c.find_earliest.new.steps) (sym c.in-Earliest.is)
    c.find_earliest.ensures.work
