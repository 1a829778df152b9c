use Rattle.std.proofs.Common.{◌≡◌, ◌++◌, drop, map}
use Rattle.graph_from_r.specs.Vertices.{device}
use Rattle.graph_from_r.proofs.vertices.add_devices.Given as goal

-- what was added, and what is left to add
abbrev pub invariant-devices : goal.invariant-devices
invariant-devices l = l.vertices.items ++ map (device l.kind l.base l.parent) (drop l.id-index l.ids)
    ≡ l.fn.vertices.items ++ map (device l.kind l.base l.parent) l.ids
