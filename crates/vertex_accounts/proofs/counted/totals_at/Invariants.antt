use Rattle.std.proofs.Common.{◌≡◌, ◌<◌, ℕ, Some, length, slice_get, slice_index_or}
use Rattle.vertex_accounts.specs.declared.quantities.Quantity.{Quantity}
use Rattle.vertex_accounts.specs.Quantities.{total_in}
use Rattle.vertex_accounts.proofs.counted.totals_at.Given as goal

-- the totals of the quantities so far
abbrev pub invariant-loop-quantity : goal.invariant-loop-quantity
invariant-loop-quantity l = record {
  len : length l.totals.items ≡ l.quantity-index;
  totals : (k : ℕ) (q : Quantity) → k < l.quantity-index → slice_get l.quantities k ≡ Some q →
      slice_index_or l.totals.items k 0 ≡ total_in l.graph.resources.vertices q l.vertex;
}
