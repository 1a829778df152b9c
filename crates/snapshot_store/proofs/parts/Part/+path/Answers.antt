use Rattle.std.proofs.Common.{◌-◌, ◌≤◌, arith}
use Rattle.snapshot_store.proofs.RaiseLaws.{full_part}
use Rattle.snapshot_store.proofs.parts.Part.+path.Goals as goal

pub raised-requires-clause-part : goal.raised-requires-clause-part
raised-requires-clause-part g t c =
    let low : 1 ≤ c.args.height - 1 = omega (arith, c.requires.low, c.if-height-eq1.false) in
    full_part _ c.args.full.now _ c.requires.full low c.in-Ok.ensures
