use Rattle.vertex_planners.specs.Rows.{places_of}
use Rattle.vertex_accounts.proofs.CountLaws.{NumbersSoFar}
use Rattle.vertex_accounts.proofs.counted.rows_of.Given as goal

-- the numbers of the quantities so far
abbrev pub invariant-loop-quantity : goal.invariant-loop-quantity
invariant-loop-quantity l =
    NumbersSoFar l.graph.resources.vertices l.quantities l.claims l.quantity-index (places_of l.rows)
