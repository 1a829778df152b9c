use Rattle.std.proofs.Common.{List, take, sym, subst, ◌∙◌}
use Rattle.std.proofs.lemmas.List.{take_more}
use Rattle.dfu_match.specs.declared.knowing.Row.{Row}
use Rattle.dfu_match.specs.Rows.{IsLeft}
use Rattle.dfu_match.proofs.leaving.left_of.Goals as goal

pub loop-row-preserved : goal.loop-row-preserved
loop-row-preserved c =
    let rows : List Row = c.args.rows.now in
    let i = c.loop-row.row-index in
    let before = c.loop-row.invariant in record {
      left = subst (λ (rs : List Row). IsLeft c.args.need.now rs c.with-left.result)
          (sym (take_more rows i _ c.loop-row-test.true))
          (c.with-left.ensures.left (take i rows) before.left);
      from = c.with-left.ensures.from ∙ before.from;
      opens = c.with-left.ensures.opens before.opens;
    }
