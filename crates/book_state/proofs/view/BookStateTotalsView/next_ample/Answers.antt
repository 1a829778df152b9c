use Rattle.prune_filters.specs.Amples.{IsNextAmpleOrNone}
use Rattle.book_state.proofs.ViewLaws.{present_at, ample_at, ample_later_at}
use Rattle.book_state.proofs.view.BookStateTotalsView.next_ample.Goals as goal

pub returns-clause-later : goal.returns-clause-later
returns-clause-later g c =
    ample_later_at c.graph-graph.result.now c.accounts-accounts.result.now
    c.args.self.now c.graph-graph.ensures.value c.accounts-accounts.ensures.value c.accounts-accounts.ensures.book
    c.args.kind c.args.amount c.args.after c.next_ample.result c.next_ample.ensures.answer

pub returns-clause-answer : goal.returns-clause-answer
returns-clause-answer g c =
    present_at c.graph-graph.result.now
    c.accounts-accounts.result.now c.args.self.now c.graph-graph.ensures.value c.accounts-accounts.ensures.value
    (λ vs present. IsNextAmpleOrNone vs present c.args.kind c.args.amount c.args.after c.next_ample.result)
    c.next_ample.ensures.answer

pub returns-clause-work : goal.returns-clause-work
returns-clause-work g c =
    ample_at c.graph-graph.result.now
    c.accounts-accounts.result.now c.args.self.now c.graph-graph.ensures.value c.accounts-accounts.ensures.value
    c.accounts-accounts.ensures.book c.graph-graph.ensures.valid c.args.steps.now c.next_ample.new.steps
    c.next_ample.ensures.work
