use Rattle.std.proofs.Common.{◌≡◌, take}
use Rattle.flux_defs.proofs.requests.+copies.Given as goal

abbrev pub invariant-copy_needs-loop-need : goal.invariant-copy_needs-loop-need
invariant-copy_needs-loop-need l = l.copied.items ≡ take l.need-index l.need-items
