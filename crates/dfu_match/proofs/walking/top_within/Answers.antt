use Rattle.std.proofs.Common.{◌+◌, ◌*◌, length, sym, ◌∙◌, arith, true≢false}
use Rattle.dfu_match.specs.Pairs.{asked_totals}
use Rattle.dfu_match.specs.Tables.{all_of}
use Rattle.dfu_match.proofs.AskLaws as laws
use Rattle.dfu_match.proofs.PairLaws.{takes_within}
use Rattle.dfu_match.proofs.walking.top_within.Goals as goal

pub returns-then-asks_within-clause-own : goal.returns-then-asks_within-clause-own
returns-then-asks_within-clause-own g c = λ present stands asks.
    let s = c.args.s.now in
    laws.own_told s.graph.now.resources.vertices present s.window
    (asked_totals s.wanted.now (g.F.FreeView.keeps s.view.now)) c.args.need.now c.args.vertex c.args.low
    c.top_short.result c.requires.vertex c.requires.low (c.top_short.ensures.clear present stands)

pub returns-clause-own : goal.returns-clause-own
returns-clause-own g c = λ present stands asks.
    absurd (true≢false (sym (c.asks_within.ensures.no asks) ∙ c.if-asks_within.false))

pub returns-clause-work : goal.returns-clause-work
returns-clause-work g c = λ present stands place here before.
    let steps = length (all_of c.args.need.now) * g.F.FreeView.cost c.args.s.now.view.now in
    takes_within _ steps steps c.args.steps.now c.top_over.new.steps place (place + 1) c.args.low c.args.vertex place
    (place + 1) c.args.low (c.args.vertex + 1) (omega arith) (omega arith) (omega arith) (omega arith) (omega arith)
    (c.top_over.ensures.work present stands place here before)
