use Rattle.std.proofs.Common.{◌*◌, ◌≤◌, length, take, drop, ◌∙◌, arith}
use Rattle.dfu_match.proofs.LeftLaws.{left_all, left_more}
use Rattle.dfu_match.proofs.knowing.Known.left.Goals as goal

pub loop-block-preserved : goal.loop-block-preserved
loop-block-preserved c =
    let need = c.args.need.now in
    let block = c.loop-block.block in
    let was = c.loop-block.invariant in
    let told = c.left_at.ensures in
    let same = c.and-all.ensures.from in
    let from = was.from in
    let before = was.opens in
    let low = told.from in
    let high = told.opens in
    let opens = c.and-all.ensures.opens (omega (arith, from, before)) (omega (arith, from, high)) in
    let rows = c.left_at.new.self.rows.items in
    record {
      own = told.own ∙ was.own;
      rows = told.rows ∙ was.rows;
      end = told.end ∙ was.end;
      length = told.length ∙ was.length;
      lefts = told.lefts;
      from = same ∙ from;
      opens = omega (arith, opens, same, from);
      left = left_more need rows block c.and-all.result (c.and-all.ensures.left need (take (16 * block) rows)
          (take 16 (drop (16 * block) rows)) (rw told.rows was.left) told.left (omega (arith, low, from)));
    }

pub returns-clause-left : goal.returns-clause-left
returns-clause-left c =
    let known = c.loop-block.self in
    let all = c.loop-block.invariant.lefts.1 in
    let same = c.loop-block.invariant.length in
    let reach : length known.rows.items ≤ 16 * c.loop-block.block = omega (arith, all, same) in
    left_all c.args.need.now known.rows.items c.loop-block.block c.loop-block.all reach c.loop-block.invariant.left
