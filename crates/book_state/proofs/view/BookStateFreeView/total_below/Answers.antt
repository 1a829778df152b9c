use Rattle.std.proofs.Common.{◌+◌, ◌*◌, arith}
use Rattle.std.specs.FinMap.{len}
use Rattle.flux_defs.proofs.DigitLaws.{some_dig}
use Rattle.flux_defs.proofs.Presents.{as_up}
use Rattle.book_state.specs.Books.{accounts_of, rows_of, vertices_of, IsTotalKept}
use Rattle.book_state.proofs.ViewLaws.{graph_at, answer_at, asked_at, place_at, work_at, LittleOrNone, LittleTold}
use Rattle.book_state.proofs.ViewLaws.{if_some, little_told, little_within}
use Rattle.book_state.proofs.view.BookStateFreeView.total_below.Goals as goal

pub returns-in_default-clause-work : goal.returns-in_default-clause-work
returns-in_default-clause-work g c =
    let some = some_dig (2 * (accounts_of c.args.self.now).count + len (rows_of c.args.self.now) + 4) in
    let tick = c.tick.ensures in
    omega (arith, some, tick)

pub total_below-requires-clause-graph : goal.total_below-requires-clause-graph
total_below-requires-clause-graph g c = graph_at c.graph-graph.result.now c.accounts-accounts.result.now
    c.args.self.now c.graph-graph.ensures.value c.accounts-accounts.ensures.value c.accounts-accounts.ensures.book

pub total_below-requires-clause-place : goal.total_below-requires-clause-place
total_below-requires-clause-place g c = (
  c.args.kind,
  place_at c.graph-graph.result.now c.accounts-accounts.result.now c.args.self.now c.graph-graph.ensures.value
      c.accounts-accounts.ensures.value c.args.kind c.in-Some.place c.in-Some.ensures.place,
)

pub total_below-requires-clause-asked : goal.total_below-requires-clause-asked
total_below-requires-clause-asked g c = asked_at c.graph-graph.result.now c.accounts-accounts.result.now
    c.args.self.now c.graph-graph.ensures.value c.accounts-accounts.ensures.value c.args.vertex
    c.args.window c.requires.asked

pub returns-clause-answer : goal.returns-clause-answer
returns-clause-answer g c = λ present is.
    let accounts = c.accounts-accounts.result.now in
    let at = place_at c.graph-graph.result.now accounts c.args.self.now c.graph-graph.ensures.value
    c.accounts-accounts.ensures.value c.args.kind c.in-Some.place c.in-Some.ensures.place in
    as_up (LittleTold (vertices_of c.args.self.now) c.args.window c.args.vertex c.args.kind c.args.amount
    (IsTotalKept c.args.self.now c.args.vertex c.args.kind) c.total_below.result) present is.1
    (little_told c.args.window (vertices_of c.args.self.now) present.jobs c.args.vertex c.args.kind c.args.amount
    (IsTotalKept c.args.self.now c.args.vertex c.args.kind) c.total_below.result
    (answer_at c.graph-graph.result.now accounts c.args.self.now c.graph-graph.ensures.value
    c.accounts-accounts.ensures.value (λ vs js. LittleOrNone c.args.window vs js c.args.vertex c.args.kind c.args.amount
    c.total_below.result) (λ js are. c.total_below.ensures.answer c.args.kind js at are) present.jobs is.0))

pub returns-clause-within : goal.returns-clause-within
returns-clause-within g c =
    let accounts = c.accounts-accounts.result.now in
    let book = c.accounts-accounts.ensures.book in
    let at = place_at c.graph-graph.result.now accounts c.args.self.now c.graph-graph.ensures.value
    c.accounts-accounts.ensures.value c.args.kind c.in-Some.place c.in-Some.ensures.place in
    little_within c.args.window (vertices_of c.args.self.now) book.0 c.args.vertex c.args.kind c.args.amount
    c.total_below.result
    (answer_at c.graph-graph.result.now accounts c.args.self.now c.graph-graph.ensures.value
    c.accounts-accounts.ensures.value (λ vs js. LittleOrNone c.args.window vs js c.args.vertex c.args.kind c.args.amount
    c.total_below.result) (λ js are. c.total_below.ensures.answer c.args.kind js at are) book.0 book.1)

pub returns-clause-kept : goal.returns-clause-kept
returns-clause-kept g c =
    if_some c.total_below.result (IsTotalKept c.args.self.now c.args.vertex c.args.kind) c.in-Some.ensures.kept

pub returns-clause-work : goal.returns-clause-work
returns-clause-work g c =
    work_at c.graph-graph.result.now
    c.accounts-accounts.result.now c.args.self.now c.graph-graph.ensures.value c.accounts-accounts.ensures.value
    c.accounts-accounts.ensures.book c.graph-graph.ensures.valid c.args.steps.now c.total_below.new.steps
    (λ n looks. let w = c.total_below.ensures.work n looks in omega (arith, w))
