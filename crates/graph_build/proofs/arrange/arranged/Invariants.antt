use Rattle.std.proofs.Common.{◌≡◌, ℕ, ◌≤◌, length, Some}
use Rattle.std.specs.Prelude.{slice_get}
use Rattle.std.specs.Option.{option_map}
use Rattle.graph_build.specs.Arranged.{IsArrangedList}
use Rattle.graph_build.proofs.arrange.arranged.Given as goal

abbrev pub invariant-loop-at : goal.invariant-loop-at
invariant-loop-at l = record {
  taken : IsArrangedList l.fn.raw.items l.order l.at-index l.list.items;
  as_many : length l.slots.items ≡ length l.fn.raw.items;
  left : (k i : ℕ) → l.at-index ≤ k → slice_get l.order k ≡ Some i →
      slice_get l.slots.items i ≡ option_map (λ r. Some r) (slice_get l.fn.raw.items i);
}
