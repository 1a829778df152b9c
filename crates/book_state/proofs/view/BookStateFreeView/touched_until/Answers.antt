use Rattle.std.proofs.Common.{◌≤◌, IfSome, IsTrue, arith}
use Rattle.flux_defs.specs.Closed.{no_bars, is_touched, IsTouchedOver}
use Rattle.flux_defs.specs.Later.{IsSoUntil}
use Rattle.flux_defs.specs.Present.{up_with}
use Rattle.book_state.proofs.ViewLaws.{graph_at, present_at, any_at, asked_at, work_at, so_until, until_within}
use Rattle.book_state.proofs.view.BookStateFreeView.touched_until.Goals as goal

pub touched_until-requires-clause-graph : goal.touched_until-requires-clause-graph
touched_until-requires-clause-graph g c = graph_at c.graph-graph.result.now c.accounts-accounts.result.now
    c.args.self.now c.graph-graph.ensures.value c.accounts-accounts.ensures.value c.accounts-accounts.ensures.book

pub touched_until-requires-clause-asked : goal.touched_until-requires-clause-asked
touched_until-requires-clause-asked g c = asked_at c.graph-graph.result.now c.accounts-accounts.result.now
    c.args.self.now c.graph-graph.ensures.value c.accounts-accounts.ensures.value c.args.vertex
    c.args.window c.requires.asked

pub returns-clause-answer : goal.returns-clause-answer
returns-clause-answer g c =
    let vertices = c.graph-graph.result.now.resources.vertices in
    present_at c.graph-graph.result.now
    c.accounts-accounts.result.now c.args.self.now c.graph-graph.ensures.value c.accounts-accounts.ensures.value
    (λ vs present. IsSoUntil (λ w. IsTouchedOver vs present w c.args.vertex) c.args.window c.touched_until.result)
    (λ js are. so_until c.args.window (λ m. IsTrue (is_touched (no_bars vertices (up_with js)) m c.args.vertex))
    c.touched_until.result (c.touched_until.ensures.answer js are))

pub returns-clause-within : goal.returns-clause-within
returns-clause-within g c =
    let vertices = c.graph-graph.result.now.resources.vertices in
    any_at c.graph-graph.result.now
    c.accounts-accounts.result.now c.args.self.now c.graph-graph.ensures.value c.accounts-accounts.ensures.value
    c.accounts-accounts.ensures.book (IfSome c.touched_until.result (λ m. c.args.window.from ≤ m))
    (λ js are. until_within c.args.window (λ m. IsTrue (is_touched (no_bars vertices (up_with js)) m c.args.vertex))
    c.touched_until.result (c.touched_until.ensures.answer js are))

pub returns-clause-work : goal.returns-clause-work
returns-clause-work g c =
    work_at c.graph-graph.result.now
    c.accounts-accounts.result.now c.args.self.now c.graph-graph.ensures.value c.accounts-accounts.ensures.value
    c.accounts-accounts.ensures.book c.graph-graph.ensures.valid c.args.steps.now c.touched_until.new.steps
    (λ n looks. let w = c.touched_until.ensures.work n looks in omega (arith, w))
