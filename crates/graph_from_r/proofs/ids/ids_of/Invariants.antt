use Rattle.std.proofs.Common.{◌≡◌, ◌++◌, drop}
use Rattle.idset_text.specs.Idsets.{ids_of}
use Rattle.graph_from_r.proofs.ids.ids_of.Given as goal

-- what was added, and what is left to add
abbrev pub invariant-each : goal.invariant-each
invariant-each l = l.ids.items ++ ids_of (drop l.range-index l.ranges) ≡ ids_of l.ranges
