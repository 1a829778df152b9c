use Rattle.std.proofs.Common.{◌+◌, ◌*◌, arith}
use Rattle.std.specs.FinMap.{len}
use Rattle.flux_defs.specs.Free.{IsTotalOver}
use Rattle.flux_defs.proofs.DigitLaws.{some_dig}
use Rattle.book_state.specs.Books.{accounts_of, rows_of}
use Rattle.book_state.proofs.ViewLaws.{graph_at, present_at, asked_at, place_at, work_at}
use Rattle.book_state.proofs.view.BookStateFreeView.total_over.Goals as goal

pub returns-in_default-clause-work : goal.returns-in_default-clause-work
returns-in_default-clause-work g c =
    let some = some_dig (2 * (accounts_of c.args.self.now).count + len (rows_of c.args.self.now) + 4) in
    let tick = c.tick.ensures in
    omega (arith, some, tick)

pub total_over-requires-clause-graph : goal.total_over-requires-clause-graph
total_over-requires-clause-graph g c = graph_at c.graph-graph.result.now c.accounts-accounts.result.now
    c.args.self.now c.graph-graph.ensures.value c.accounts-accounts.ensures.value c.accounts-accounts.ensures.book

pub total_over-requires-clause-place : goal.total_over-requires-clause-place
total_over-requires-clause-place g c = (
  c.args.kind,
  place_at c.graph-graph.result.now c.accounts-accounts.result.now c.args.self.now c.graph-graph.ensures.value
      c.accounts-accounts.ensures.value c.args.kind c.in-Some.place c.in-Some.ensures.place,
)

pub total_over-requires-clause-asked : goal.total_over-requires-clause-asked
total_over-requires-clause-asked g c = asked_at c.graph-graph.result.now c.accounts-accounts.result.now
    c.args.self.now c.graph-graph.ensures.value c.accounts-accounts.ensures.value c.args.vertex
    c.args.window c.requires.asked

pub returns-clause-answer : goal.returns-clause-answer
returns-clause-answer g c =
    let accounts = c.accounts-accounts.result.now in
    let at = place_at c.graph-graph.result.now accounts c.args.self.now c.graph-graph.ensures.value
    c.accounts-accounts.ensures.value c.args.kind c.in-Some.place c.in-Some.ensures.place in
    present_at c.graph-graph.result.now
    accounts c.args.self.now c.graph-graph.ensures.value c.accounts-accounts.ensures.value
    (λ vs present. IsTotalOver vs present c.args.window c.args.kind c.args.vertex c.total_over.result)
    (λ jobs is. c.total_over.ensures.answer c.args.kind jobs at is)

pub returns-clause-work : goal.returns-clause-work
returns-clause-work g c =
    work_at c.graph-graph.result.now
    c.accounts-accounts.result.now c.args.self.now c.graph-graph.ensures.value c.accounts-accounts.ensures.value
    c.accounts-accounts.ensures.book c.graph-graph.ensures.valid c.args.steps.now c.total_over.new.steps
    (λ n looks. let w = c.total_over.ensures.work n looks in omega (arith, w))
