use Rattle.std.proofs.Common.{drop}
use Rattle.std.specs.List.{AllByRecursion}
use Rattle.flux_defs.specs.Needs.{HasNoSpread}
use Rattle.dfu_match.proofs.spreads.+seeking.Given as goal

-- where the needs that are left hold no spread, none does
abbrev pub invariant-have_none-loop-need : goal.invariant-have_none-loop-need
invariant-have_none-loop-need l =
    AllByRecursion HasNoSpread (drop l.need-index l.need-items) → AllByRecursion HasNoSpread l.need-items
