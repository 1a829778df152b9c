use Rattle.std.proofs.Common.{◌≡◌, ℕ, ◌+◌, ◌<◌, ◌≤◌, ◌*◌, cond, take, length}
use Rattle.std.specs.List.{AllByRecursion, sum_by}
use Rattle.flux_defs.specs.Jobs.{vertex_of}
use Rattle.vertex_planners.specs.Counting.{counts_at}
use Rattle.vertex_planners.specs.Numbers.{amount_at, count_of, HasKeysBelow}
use Rattle.vertex_planners.specs.Rises.{rise_at, weight_of, IsInside}
use Rattle.vertex_planners.proofs.measures.amounts_within.Given as goal

-- the numbers of the claims so far, at their vertices and above them, with what is still to be made
abbrev pub invariant-loop-claim : goal.invariant-loop-claim
invariant-loop-claim g l = record {
  sums : (v : ℕ) → amount_at l.amounts v + rise_at l.graph.resources.vertices l.rise v ≡ sum_by (λ c.
      cond (counts_at l.graph.resources.vertices v c) (g.M.Measure.amount l.measure c) 0) (take l.claim-index l.claims);
  inside : AllByRecursion (λ c. vertex_of c < length l.graph.resources.vertices) l.claims →
      IsInside l.graph.resources.vertices l.rise;
  keys : AllByRecursion (λ c. vertex_of c < length l.graph.resources.vertices) l.claims →
      HasKeysBelow (length l.graph.resources.vertices) l.amounts;
  few : AllByRecursion (λ c. vertex_of c < length l.graph.resources.vertices) l.claims →
      count_of l.amounts + weight_of l.rise ≤ 16 * l.claim-index;
}
