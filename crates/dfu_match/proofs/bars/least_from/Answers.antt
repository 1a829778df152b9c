use Rattle.std.proofs.Common.{arith}
use Rattle.dfu_match.proofs.BarLaws.{least_at_index, none_from_index}
use Rattle.dfu_match.proofs.bars.least_from.Goals as goal

pub returns-then-index-list : goal.returns-then-index-list
returns-then-index-list c = none_from_index c.args.list.now c.args.from c.index_of-index.result
    c.index_of-index.ensures c.if-index-list.true

pub returns : goal.returns
returns c =
    least_at_index c.args.list.now c.args.from c.index_of-index.result c.requires c.index_of-index.ensures
    (let le = c.index_of-index.ensures.within in let ne = c.if-index-list.false in omega arith)
