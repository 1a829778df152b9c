use Rattle.std.proofs.Common.{◌≡◌, map, take}
use Rattle.dfu_match.proofs.DemandLaws.{asked_in_full}
use Rattle.dfu_match.proofs.demanding.demands_in_full.Given as goal

-- the demands of the kinds so far
abbrev pub invariant-loop-kind : goal.invariant-loop-kind
invariant-loop-kind l = l.demands.items ≡ map (asked_in_full l.kinds.graph.now.resources.vertices l.needs)
    (take l.kind-index l.kind-items)
