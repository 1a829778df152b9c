use Rattle.std.proofs.Common.{◌+◌, ◌*◌, length, sym, ◌∙◌, arith, true≢false}
use Rattle.dfu_match.specs.Tables.{all_of}
use Rattle.dfu_match.proofs.PairLaws.{takes_within}
use Rattle.dfu_match.proofs.asking.top_above.Goals as goal

pub returns-then-is_spread-clause-own : goal.returns-then-is_spread-clause-own
returns-then-is_spread-clause-own g c = λ present stands plain.
    absurd (plain (c.is_spread.ensures.yes c.if-is_spread.true))

pub returns-then-is_spread-clause-work : goal.returns-then-is_spread-clause-work
returns-then-is_spread-clause-work g c = λ present stands place here before.
    let steps = length (all_of c.args.need.now) * g.F.FreeView.cost c.args.s.now.view.now in
    let took = c.top_over.ensures.work present stands place here before in (
      takes_within _ steps steps c.args.steps.now c.top_over.new.steps place (place + 1) c.args.low c.args.vertex place
          (place + 1) c.args.low (c.args.vertex + 1) (omega arith) (omega arith) (omega arith) (omega arith)
          (omega arith) took,
      λ spread. took,
    )

pub returns-clause-own : goal.returns-clause-own
returns-clause-own g c = λ present stands plain. c.top_within.ensures.own present stands

pub returns-clause-work : goal.returns-clause-work
returns-clause-work g c = λ present stands place here before. (
  c.top_within.ensures.work present stands place here before,
  λ spread. absurd (true≢false (sym (c.is_spread.ensures.no spread) ∙ c.if-is_spread.false)),
)
