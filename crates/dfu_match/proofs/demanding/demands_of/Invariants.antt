use Rattle.std.proofs.Common.{◌≡◌, map, take}
use Rattle.dfu_match.proofs.DemandLaws.{asked}
use Rattle.dfu_match.proofs.demanding.demands_of.Given as goal

-- the demands of the kinds so far
abbrev pub invariant-loop-kind : goal.invariant-loop-kind
invariant-loop-kind l = l.demands.items ≡ map (asked l.kinds.graph.now.resources.vertices l.need)
    (take l.kind-index l.kind-items)
