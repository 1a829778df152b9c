use Rattle.std.proofs.Common.{arith}
use Rattle.snapshot_store.proofs.ListLaws.{pushed_part}
use Rattle.snapshot_store.proofs.pages.Pages.push.Goals as goal

pub invariant_of-self-in-Ok : goal.invariant_of-self-in-Ok
invariant_of-self-in-Ok g c =
    let is = pushed_part c.settle.new.tail _ c.args.item c.in_default.ensures.room c.in-Ok.ensures.new in
    record { len = omega (arith, is.1, c.in_default.ensures.len, c.self.invariant.len); part = is.0 }
