use Rattle.std.proofs.Common.{ℕ, ◌<◌, MatchOption}
use Rattle.std.specs.Ordering.{nat_cmp}
use Rattle.std.specs.BTreeMap.{get}
use Rattle.flux_defs.specs.ValidGraph.{HasRank}
use Rattle.resource_graph.specs.Preorder.{plain}
use Rattle.resource_graph.proofs.tables.rank_table.Given as goal

abbrev pub invariant-loop-v : goal.invariant-loop-v
invariant-loop-v l = (rank : ℕ) → MatchOption (get nat_cmp l.ranked rank)
    ((u : ℕ) → u < l.v → HasRank (plain l.vertices) rank u → ⊥) (λ u. HasRank (plain l.vertices) rank u)
