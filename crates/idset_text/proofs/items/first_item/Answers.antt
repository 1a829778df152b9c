use Rattle.std.proofs.Common.{arith}
use Rattle.idset_text.proofs.ItemLemmas.{rest_whole, split_at_comma}
use Rattle.idset_text.proofs.items.first_item.Goals as goal

pub returns-clause-only : goal.returns-clause-only
returns-clause-only c = rest_whole c.args.text.now c.item_len-len.result
    (omega arith) (c.item_len-len.ensures.comma (omega arith)) c.item_len-len.ensures.pieces

pub returns-clause-parts : goal.returns-clause-parts
returns-clause-parts c =
    split_at_comma c.args.text.now c.item_len-len.result (omega arith) (c.item_len-len.ensures.comma (omega arith))
