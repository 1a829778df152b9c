use Rattle.std.proofs.Common.{◌≡◌, ℕ, ◌&&◌, ◌==◌, not, false, length, get_or, take}
use Rattle.std.specs.List.{list_any}
use Rattle.resource_graph.proofs.tables.pool_table.Given as goal

abbrev pub invariant-loop-vertex : goal.invariant-loop-vertex
invariant-loop-vertex l =
    (length l.pools.items ≡ l.kinds)
    × ((k : ℕ) → get_or l.pools.items k false
    ≡ list_any (λ x. (x.kind == k) && not (x.size == 1)) (take l.vertex-index l.vertices))
