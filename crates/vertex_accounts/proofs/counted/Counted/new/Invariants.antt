use Rattle.std.proofs.Common.{◌-◌, length}
use Rattle.prune_filters.specs.Filters.{IsCounted}
use Rattle.vertex_accounts.specs.Counts.{AreCounted}
use Rattle.vertex_accounts.proofs.CountLaws.{HavePlaces}
use Rattle.vertex_accounts.proofs.counted.Counted.new.Given as goal

-- the types so far
abbrev pub invariant-loop-name : goal.invariant-loop-name
invariant-loop-name l = record {
  counted : AreCounted l.graph.resources.vertices l.counted;
  places : HavePlaces l.graph.resources.kinds (IsCounted l.rules) l.kind l.counted.places;
}

abbrev pub decreases-loop-name : goal.decreases-loop-name
decreases-loop-name l = length l.graph.resources.kinds - l.kind
