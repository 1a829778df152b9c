use Rattle.std.proofs.Common.{◌++◌, take, arith}
use Rattle.std.proofs.KnownBytes.{Appends-trans}
use Rattle.flux_io.proofs.Fronts.{front_grows, room_falls, still_fits}
use Rattle.flux_io.proofs.whole.write_all.Goals as goal

pub pieces-preserved : goal.pieces-preserved
pieces-preserved g c =
    let i = c.pieces.invariant in
    let rest = c.pieces.rest.now in
    let n = c.in_ok-count.count in
    let e = c.in_ok-count.ensures in (
      i.0 ++ take n rest,
      front_grows c.args.text.now i.0 rest n i.1,
      Appends-trans _ _ _ i.0 (take n rest) i.2 e.bytes,
      room_falls _ _ _ i.0 rest n e.bound.0 i.3 e.room.taken,
      omega (arith, i.4, e.cause.later),
      still_fits _ _ _ _ _ _ _ _ i.0 rest i.1 i.3 i.5 e.room,
    )
