use Rattle.std.proofs.Common.{inr, arith}
use Rattle.dfu_match.specs.Tables.{needs_all}
use Rattle.dfu_match.proofs.TableLaws.{none_past}
use Rattle.dfu_match.proofs.walking.index_within.Goals as goal

pub returns-then-s-index : goal.returns-then-s-index
returns-then-s-index g c =
    let s = c.args.s.now in
    inr (none_past (needs_all s.needs.now) s.wanted.now c.args.index c.args.need.now c.if-s-index.true s.whole
    c.requires.stands)

pub overflow_add-result : goal.overflow_add-result
overflow_add-result g c =
    let lt = c.if-s-index.false in
    let fits = c.args.s.now.fits in
    omega (arith, lt, fits)
