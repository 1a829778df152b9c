use Rattle.std.proofs.Common.{◌+◌, ◌*◌, length, arith}
use Rattle.graph_laws.proofs.Preorder.{parents_first}
use Rattle.dfu_match.specs.Pairs.{asked_totals}
use Rattle.dfu_match.specs.Tables.{all_of}
use Rattle.dfu_match.proofs.AskLaws as laws
use Rattle.dfu_match.proofs.OpenLaws.{clear_alone, clear_parent}
use Rattle.dfu_match.proofs.PairLaws.{takes_within}
use Rattle.dfu_match.proofs.walking.top_over.Goals as goal

pub top_short-requires-clause-vertex : goal.top_short-requires-clause-vertex
top_short-requires-clause-vertex g c =
    let less = parents_first c.args.s.now.graph.now.resources c.is_valid.ensures.valid.preorder c.args.vertex
    c.in-Some.parent c.in-Some.ensures.0 in
    let lt = c.requires.vertex in
    omega (arith, less, lt)

pub returns-in-None-clause-clear : goal.returns-in-None-clause-clear
returns-in-None-clause-clear g c = λ present stands.
    let s = c.args.s.now in
    let graph = s.graph.now in
    clear_alone graph.resources graph.names c.is_valid.ensures.valid present s.window
    (asked_totals s.wanted.now (g.F.FreeView.keeps s.view.now)) c.args.need.now c.args.vertex c.args.low
    c.requires.vertex c.in-None.ensures

pub returns-in-Some-clause-above : goal.returns-in-Some-clause-above
returns-in-Some-clause-above g c =
    let s = c.args.s.now in
    let graph = s.graph.now in
    laws.above_by_parent graph.resources graph.names c.is_valid.ensures.valid c.args.vertex c.args.low
    c.requires.vertex c.in-Some.parent c.in-Some.ensures.0 c.top_short.result c.top_short.ensures.above

pub returns-in-Some-clause-clear : goal.returns-in-Some-clause-clear
returns-in-Some-clause-clear g c = λ present stands.
    let s = c.args.s.now in
    let graph = s.graph.now in
    laws.clear_by_parent graph.resources graph.names c.is_valid.ensures.valid c.args.vertex c.args.low
    c.requires.vertex present s.window (asked_totals s.wanted.now (g.F.FreeView.keeps s.view.now)) c.args.need.now
    c.in-Some.parent c.in-Some.ensures.0 c.top_short.result c.top_short.ensures.above
    (c.top_short.ensures.clear present stands)

pub returns-in-Some-clause-work : goal.returns-in-Some-clause-work
returns-in-Some-clause-work g c = λ present stands place here before.
    let s = c.args.s.now in
    let graph = s.graph.now in
    let keeps = asked_totals s.wanted.now (g.F.FreeView.keeps s.view.now) in
    let steps = length (all_of c.args.need.now) * g.F.FreeView.cost s.view.now in
    let parent = c.in-Some.parent in
    let less = parents_first graph.resources c.is_valid.ensures.valid.preorder c.args.vertex parent
    c.in-Some.ensures.0 in
    takes_within _ steps steps c.args.steps.now c.top_short.new.steps place (place + 1) c.args.low (parent + 1) place
    (place + 1) c.args.low c.args.vertex (omega arith) (omega arith) (omega arith) (omega arith) (omega (arith, less))
    (c.top_short.ensures.work present stands place here
    (clear_parent graph.resources graph.names c.is_valid.ensures.valid present s.window keeps c.args.need.now
    c.args.vertex parent c.args.low c.requires.vertex c.in-Some.ensures.0 before))
