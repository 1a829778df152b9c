use Rattle.std.proofs.Common.{◌↔◌, IsTrue, arith}
use Rattle.flux_defs.specs.Closed.{IsTouchedOver}
use Rattle.book_state.proofs.ViewLaws.{graph_at, present_at, asked_at, work_at}
use Rattle.book_state.proofs.view.BookStateFreeView.touched_over.Goals as goal

pub touched_over-requires-clause-graph : goal.touched_over-requires-clause-graph
touched_over-requires-clause-graph g c = graph_at c.graph-graph.result.now c.accounts-accounts.result.now
    c.args.self.now c.graph-graph.ensures.value c.accounts-accounts.ensures.value c.accounts-accounts.ensures.book

pub touched_over-requires-clause-asked : goal.touched_over-requires-clause-asked
touched_over-requires-clause-asked g c = asked_at c.graph-graph.result.now c.accounts-accounts.result.now
    c.args.self.now c.graph-graph.ensures.value c.accounts-accounts.ensures.value c.args.vertex
    c.args.window c.requires.asked

pub returns-clause-answer : goal.returns-clause-answer
returns-clause-answer g c = present_at c.graph-graph.result.now c.accounts-accounts.result.now
    c.args.self.now c.graph-graph.ensures.value c.accounts-accounts.ensures.value
    (λ vs present. IsTrue c.touched_over.result
    ↔ IsTouchedOver vs present c.args.window c.args.vertex) c.touched_over.ensures.answer

pub returns-clause-work : goal.returns-clause-work
returns-clause-work g c =
    work_at c.graph-graph.result.now
    c.accounts-accounts.result.now c.args.self.now c.graph-graph.ensures.value c.accounts-accounts.ensures.value
    c.accounts-accounts.ensures.book c.graph-graph.ensures.valid c.args.steps.now c.touched_over.new.steps
    (λ n looks. let w = c.touched_over.ensures.work n looks in omega (arith, w))
