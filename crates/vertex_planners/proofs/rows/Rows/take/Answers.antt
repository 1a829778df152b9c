use Rattle.std.proofs.Common.{refl, length, arith}
use Rattle.std.proofs.lemmas.Option.{slice_get_read}
use Rattle.vertex_planners.proofs.RowLaws.{one_taken, all_taken}
use Rattle.vertex_planners.proofs.rows.Rows.take.Goals as goal

pub loop-place-preserved : goal.loop-place-preserved
loop-place-preserved c =
    let places = c.loop-place.self.places.items in
    let within = c.loop-place-test.true in
    let end = c.len-place-end.ensures in
    let len = c.loop-place.invariant.len in
    one_taken c.args.self.now.places.items places _ c.args.vertex c.loop-place.place c.loop-place.row c.push.new.self
    c.index_mut.result.now c.take-number.new.self c.take-number.result c.loop-place.invariant
    (slice_get_read places (length places) c.loop-place.place c.index_mut.result.now refl
    (omega (arith, within, end, len)) c.index_mut.ensures.value)
    refl c.take-number.ensures c.in-Ok.ensures.ok

pub returns : goal.returns
returns c =
    let past = c.loop-place-test.false in
    let within = c.loop-place.auto.place-end in
    let len = c.len-place-end.ensures in
    all_taken c.args.self.now.places.items c.loop-place.self.places.items
    c.args.vertex c.loop-place.place c.loop-place.row c.loop-place.invariant (omega (arith, past, within, len))
