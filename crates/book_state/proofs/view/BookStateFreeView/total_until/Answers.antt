use Rattle.std.proofs.Common.{◌+◌, ◌*◌, ◌≤◌, IfSome, arith}
use Rattle.std.specs.FinMap.{len}
use Rattle.flux_defs.specs.Free.{IsTooLittleAt}
use Rattle.flux_defs.proofs.DigitLaws.{some_dig}
use Rattle.flux_defs.specs.Present.{up_with}
use Rattle.flux_defs.proofs.Presents.{as_up}
use Rattle.vertex_accounts.specs.Moments.{IsThroughOrNone}
use Rattle.book_state.specs.Books.{accounts_of, rows_of, vertices_of, IsTotalKept}
use Rattle.book_state.proofs.ViewLaws.{graph_at, answer_at, any_at, asked_at, place_at, work_at}
use Rattle.book_state.proofs.ViewLaws.{if_some, kept_until, until_within, LittleKept}
use Rattle.book_state.proofs.view.BookStateFreeView.total_until.Goals as goal

pub returns-in_default-clause-work : goal.returns-in_default-clause-work
returns-in_default-clause-work g c =
    let some = some_dig (2 * (accounts_of c.args.self.now).count + len (rows_of c.args.self.now) + 4) in
    let tick = c.tick.ensures in
    omega (arith, some, tick)

pub total_until-requires-clause-graph : goal.total_until-requires-clause-graph
total_until-requires-clause-graph g c = graph_at c.graph-graph.result.now c.accounts-accounts.result.now
    c.args.self.now c.graph-graph.ensures.value c.accounts-accounts.ensures.value c.accounts-accounts.ensures.book

pub total_until-requires-clause-place : goal.total_until-requires-clause-place
total_until-requires-clause-place g c = (
  c.args.kind,
  place_at c.graph-graph.result.now c.accounts-accounts.result.now c.args.self.now c.graph-graph.ensures.value
      c.accounts-accounts.ensures.value c.args.kind c.in-Some.place c.in-Some.ensures.place,
)

pub total_until-requires-clause-asked : goal.total_until-requires-clause-asked
total_until-requires-clause-asked g c = asked_at c.graph-graph.result.now c.accounts-accounts.result.now
    c.args.self.now c.graph-graph.ensures.value c.accounts-accounts.ensures.value c.args.vertex
    c.args.window c.requires.asked

pub returns-clause-answer : goal.returns-clause-answer
returns-clause-answer g c = λ present is.
    let accounts = c.accounts-accounts.result.now in
    let at = place_at c.graph-graph.result.now accounts c.args.self.now c.graph-graph.ensures.value
    c.accounts-accounts.ensures.value c.args.kind c.in-Some.place c.in-Some.ensures.place in
    as_up (LittleKept (vertices_of c.args.self.now) c.args.window c.args.vertex c.args.kind c.args.amount
    (IsTotalKept c.args.self.now c.args.vertex c.args.kind) c.total_until.result) present is.1
    (kept_until c.args.window
    (IsTooLittleAt (vertices_of c.args.self.now) (up_with present.jobs) c.args.vertex c.args.kind c.args.amount)
    (IsTotalKept c.args.self.now c.args.vertex c.args.kind) c.total_until.result
    (answer_at c.graph-graph.result.now accounts c.args.self.now c.graph-graph.ensures.value
    c.accounts-accounts.ensures.value
    (λ vs js. IsThroughOrNone c.args.window (IsTooLittleAt vs (up_with js) c.args.vertex c.args.kind c.args.amount)
    c.total_until.result) (λ js are. c.total_until.ensures.answer c.args.kind js at are) present.jobs is.0))

pub returns-clause-within : goal.returns-clause-within
returns-clause-within g c =
    let vertices = c.graph-graph.result.now.resources.vertices in
    let accounts = c.accounts-accounts.result.now in
    let at = place_at c.graph-graph.result.now accounts c.args.self.now c.graph-graph.ensures.value
    c.accounts-accounts.ensures.value c.args.kind c.in-Some.place c.in-Some.ensures.place in
    any_at c.graph-graph.result.now
    accounts c.args.self.now c.graph-graph.ensures.value c.accounts-accounts.ensures.value
    c.accounts-accounts.ensures.book (IfSome c.total_until.result (λ m. c.args.window.from ≤ m))
    (λ js are. until_within c.args.window (IsTooLittleAt vertices (up_with js) c.args.vertex c.args.kind c.args.amount)
    c.total_until.result (c.total_until.ensures.answer c.args.kind js at are))

pub returns-clause-kept : goal.returns-clause-kept
returns-clause-kept g c =
    if_some c.total_until.result (IsTotalKept c.args.self.now c.args.vertex c.args.kind) c.in-Some.ensures.kept

pub returns-clause-work : goal.returns-clause-work
returns-clause-work g c =
    work_at c.graph-graph.result.now
    c.accounts-accounts.result.now c.args.self.now c.graph-graph.ensures.value c.accounts-accounts.ensures.value
    c.accounts-accounts.ensures.book c.graph-graph.ensures.valid c.args.steps.now c.total_until.new.steps
    (λ n looks. let w = c.total_until.ensures.work n looks in omega (arith, w))
