use Rattle.std.proofs.Common.{length, refl}
use Rattle.std.proofs.lemmas.Option.{slice_get_read}
use Rattle.dfu_match.proofs.LeftLaws.{lefts_told}
use Rattle.dfu_match.proofs.knowing.Known.left_at.Goals as goal

pub returns-then-tells-clause-left : goal.returns-then-tells-clause-left
returns-then-tells-clause-left c =
    let blocks = c.args.self.now.blocks.items in
    c.requires.lefts.0 c.args.block c.index.result.now
    (slice_get_read blocks (length blocks) c.args.block c.index.result.now refl c.requires.within c.index.ensures)

pub returns-clause-lefts : goal.returns-clause-lefts
returns-clause-lefts c =
    let known = c.args.self.now in
    lefts_told c.args.need.now known.rows.items known.blocks.items c.args.block c.left_of-left.result c.requires.lefts
    (rw (c.rows_of.ensures, c.as_slice.ensures.value) at c.left_of-left.ensures.left)
