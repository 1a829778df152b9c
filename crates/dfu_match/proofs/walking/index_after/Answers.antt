use Rattle.std.proofs.Common.{arith, ◌≡◌, Some, length, slice_get, inl, inr, refl}
use Rattle.std.proofs.lemmas.Option.{slice_get_read}
use Rattle.dfu_match.specs.Tables.{needs_all}
use Rattle.dfu_match.proofs.TableLaws.{need_there, none_past, after_fits}
use Rattle.dfu_match.proofs.walking.index_after.Goals as goal

pub returns-then-s-index : goal.returns-then-s-index
returns-then-s-index g c =
    let s = c.args.s.now in
    inr (none_past (needs_all s.needs.now) s.wanted.now c.args.index c.args.need.now c.if-s-index.true s.whole
    c.requires.stands)

pub overflow_add-result : goal.overflow_add-result
overflow_add-result g c =
    let s = c.args.s.now in
    let entry : slice_get s.wanted.now c.args.index ≡ Some c.index-s-index.result = slice_get_read s.wanted.now
    (length s.wanted.now) c.args.index c.index-s-index.result refl c.if-s-index.false c.index-s-index.is in
    let there = need_there (needs_all s.needs.now) s.wanted.now c.args.index c.args.need.now c.index-s-index.result
    c.requires.stands entry in
    let tells = s.tells c.args.index c.args.need.now c.index-s-index.result there entry in
    let small = (after_fits (needs_all s.needs.now) s.wanted.now c.args.index c.index-s-index.result.within
    c.args.need.now c.if-s-index.false s.fits s.whole c.requires.stands tells.within).1 in
    rw (← c.index-s-index.is) (omega (arith, small))

pub returns : goal.returns
returns g c =
    let s = c.args.s.now in
    let entry : slice_get s.wanted.now c.args.index ≡ Some c.index-s-index.result = slice_get_read s.wanted.now
    (length s.wanted.now) c.args.index c.index-s-index.result refl c.if-s-index.false c.index-s-index.is in
    let there = need_there (needs_all s.needs.now) s.wanted.now c.args.index c.args.need.now c.index-s-index.result
    c.requires.stands entry in
    let tells = s.tells c.args.index c.args.need.now c.index-s-index.result there entry in
    inl (rw (← c.index-s-index.is) ((after_fits (needs_all s.needs.now) s.wanted.now c.args.index
    c.index-s-index.result.within c.args.need.now c.if-s-index.false s.fits s.whole c.requires.stands tells.within).0))
